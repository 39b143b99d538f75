use Rattle.std.proofs.Common.{rules, ◌≡◌, ◌-ℤ◌, ◌*◌, ◌^◌, ◌≤◌, ◌++◌, ◌∷◌, [], get_or, unsigned_abs, ℤ, pos, arith, refl, ◌∙◌}
use Rattle.std.proofs.lemmas.List.{take_all}
use Rattle.std.proofs.lemmas.List.Elements.{All-push, All-same}
use Rattle.acceleration.specs.Residual.{less}
use Rattle.acceleration.proofs.Entries.{less_more, length-less, kept64}
use Rattle.acceleration.proofs.factor.change_of.Goals as goal

pub loop-i-preserved : goal.loop-i-preserved
loop-i-preserved c =
    let now = c.requires.now c.loop-i.i (pos 0) c.loop-i-test.true in
    let before = c.requires.before c.loop-i.i (pos 0) (omega (arith, c.requires.len, c.loop-i-test.true)) in
    let is : c.apart.result ≡ get_or c.args.now.now c.loop-i.i (pos 0) -ℤ get_or c.args.before.now c.loop-i.i (pos 0) =
    c.apart.ensures.value
    ∙ rw (kept64 (get_or c.args.now.now c.loop-i.i (pos 0)) (omega (arith, now)), kept64 (get_or c.args.before.now c.loop-i.i (pos 0)) (omega (arith, before))) refl in
    let more = less_more c.args.now.now c.args.before.now c.loop-i.i c.apart.result c.loop-i-test.true c.requires.len is in
    let pushed : c.push.new.self.items ≡ c.loop-i.change.items ++ c.apart.result ∷ [] = search rules in (
      cc (pushed, c.loop-i.invariant.0, more),
      All-same (λ (x : ℤ). unsigned_abs x ≤ 4 * 10 ^ 13) c.push.new.self.items (c.loop-i.change.items ++ c.apart.result ∷ []) pushed
          (All-push (λ (x : ℤ). unsigned_abs x ≤ 4 * 10 ^ 13) c.loop-i.change.items c.apart.result c.loop-i.invariant.1 c.apart.ensures.small),
    )

pub returns-clause-change : goal.returns-clause-change
returns-clause-change c =
    c.loop-i.invariant.0
    ∙ take_all c.loop-i.i (less c.args.now.now c.args.before.now) (omega (arith, length-less c.args.now.now c.args.before.now c.requires.len, c.loop-i-test.false))
