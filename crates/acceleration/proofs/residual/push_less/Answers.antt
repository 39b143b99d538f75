use Rattle.std.proofs.Common.{rules, ◌≡◌, ◌+◌, ◌-ℤ◌, ◌++◌, ◌∷◌, [], take, length, get_or, ℕ, ◌≤◌, ℤ, List, pos, arith, ap, sym, ◌∙◌}
use Rattle.std.proofs.lemmas.List.{take_all, get_or_read, append_assoc}
use Rattle.std.proofs.lemmas.List.Elements.{All-push, All-same}
use Rattle.acceleration.specs.Differences.{IsDifference}
use Rattle.acceleration.specs.Residual.{less}
use Rattle.acceleration.proofs.Entries.{less_more, length-less, kept64}
use Rattle.acceleration.proofs.residual.push_less.Goals as goal

pub loop-i-preserved : goal.loop-i-preserved
loop-i-preserved c =
    let read = c.requires.in_range c.loop-i.i (pos 0) (omega (arith, c.requires.len, c.loop-i-test.true)) in
    let posted = get_or_read c.args.posted.now c.loop-i.i c.index-posted-i.result c.loop-i-test.true c.index-posted-i.is (pos 0) in
    let is : c.difference.result ≡ get_or c.args.posted.now c.loop-i.i (pos 0) -ℤ get_or c.args.read.now c.loop-i.i (pos 0) =
    c.difference.ensures.value
    ∙ ap (λ (n : ℤ). c.index-posted-i.result -ℤ n) (kept64 (get_or c.args.read.now c.loop-i.i (pos 0)) (omega (arith, read)))
    ∙ ap (λ (n : ℤ). n -ℤ get_or c.args.read.now c.loop-i.i (pos 0)) posted in
    let more = less_more c.args.posted.now c.args.read.now c.loop-i.i c.difference.result c.loop-i-test.true c.requires.len is in
    let pushed : c.push.new.self.items ≡ c.loop-i.entries.items ++ c.difference.result ∷ [] = search rules in (
      pushed
          ∙ ap (λ (xs : List ℤ). xs ++ c.difference.result ∷ []) c.loop-i.invariant.0
          ∙ append_assoc c.args.entries.now.items (take c.loop-i.i (less c.args.posted.now c.args.read.now)) (c.difference.result ∷ [])
          ∙ ap (λ (xs : List ℤ). c.args.entries.now.items ++ xs) (sym more),
      All-same IsDifference (take (c.loop-i.i + 1) (less c.args.posted.now c.args.read.now)) (take c.loop-i.i (less c.args.posted.now c.args.read.now) ++ c.difference.result ∷ []) more
          (All-push IsDifference (take c.loop-i.i (less c.args.posted.now c.args.read.now)) c.difference.result c.loop-i.invariant.1 c.difference.ensures.small),
    )

whole : (a b : List ℤ) (i : ℕ) → length b ≡ length a → length a ≤ i → take i (less a b) ≡ less a b
whole a b i same past = take_all i (less a b) (omega (arith, length-less a b same, past))

pub returns-clause-pushed : goal.returns-clause-pushed
returns-clause-pushed c =
    c.loop-i.invariant.0
    ∙ ap (λ (xs : List ℤ). c.args.entries.now.items ++ xs) (whole c.args.posted.now c.args.read.now c.loop-i.i c.requires.len c.loop-i-test.false)

pub returns-clause-small : goal.returns-clause-small
returns-clause-small c =
    rw (whole c.args.posted.now c.args.read.now c.loop-i.i c.requires.len c.loop-i-test.false) at c.loop-i.invariant.1
