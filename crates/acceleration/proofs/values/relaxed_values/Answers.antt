use Rattle.std.proofs.Common.{rules, ◌≡◌, ◌++◌, ◌∷◌, [], take, length, get_or, ℕ, ◌≤◌, ℤ, List, pos, All, Option, Some, None, IsSome, arith, refl, ap, sym, subst, ◌∙◌}
use Rattle.std.proofs.lemmas.List.{take_all, get_or_read}
use Rattle.std.proofs.lemmas.List.Elements.{All-push, All-same}
use Rattle.fixed_num.specs.Numbers.{IsValue}
use Rattle.fixed_num.specs.Relaxation.{relaxed}
use Rattle.acceleration.specs.RelaxedWaves.{relaxed_values}
use Rattle.acceleration.proofs.Entries.{relaxed_values_more, relaxed_values-get_or, length-relaxed_values, kept64}
use Rattle.acceleration.proofs.Locations.{values_inside, values_outside}
use Rattle.acceleration.proofs.values.relaxed_values.Goals as goal

pub loop-i-preserved : goal.loop-i-preserved
loop-i-preserved c =
    let read = c.requires.in_range c.loop-i.i (pos 0) (omega (arith, c.requires.len, c.loop-i-test.true)) in
    let x = c.value_from.ensures ∙ kept64 (get_or c.args.read.now c.loop-i.i (pos 0)) (omega (arith, read)) in
    let y = get_or_read c.args.posted.now c.loop-i.i c.index-posted-i.result c.loop-i-test.true c.index-posted-i.is (pos 0) in
    let is : c.in-Some.value ≡ relaxed (get_or c.args.read.now c.loop-i.i (pos 0)) (get_or c.args.posted.now c.loop-i.i (pos 0)) c.args.step.now.factor =
    c.in-Some.ensures.same
    ∙ ap (λ (n : ℤ). relaxed n c.index-posted-i.result c.args.step.now.factor) x
    ∙ ap (λ (n : ℤ). relaxed (get_or c.args.read.now c.loop-i.i (pos 0)) n c.args.step.now.factor) y in
    let more = relaxed_values_more c.args.step.now.factor c.args.read.now c.args.posted.now c.loop-i.i c.in-Some.value c.loop-i-test.true c.requires.len is in
    let pushed : c.push.new.self.items ≡ c.loop-i.values.items ++ c.in-Some.value ∷ [] = search rules in
    let small : IsValue c.in-Some.value = rw c.in-Some.ensures.same (c.in-Some.ensures.in_range.0 refl) in (
      cc (pushed, c.loop-i.invariant.0, more),
      All-same IsValue c.push.new.self.items (c.loop-i.values.items ++ c.in-Some.value ∷ []) pushed
          (All-push IsValue c.loop-i.values.items c.in-Some.value c.loop-i.invariant.1 small),
    )

whole : (factor : ℤ) (xs ys : List ℤ) (i : ℕ) → length xs ≡ length ys → length ys ≤ i → take i (relaxed_values factor xs ys) ≡ relaxed_values factor xs ys
whole factor xs ys i same past = take_all i (relaxed_values factor xs ys) (omega (arith, length-relaxed_values factor xs ys same, past))

pub returns-clause-values : goal.returns-clause-values
returns-clause-values c =
    c.loop-i.invariant.0 ∙ whole c.args.step.now.factor c.args.read.now c.args.posted.now c.loop-i.i c.requires.len c.loop-i-test.false

pub returns-clause-inside : goal.returns-clause-inside
returns-clause-inside c =
    let all = c.loop-i.invariant.0 ∙ whole c.args.step.now.factor c.args.read.now c.args.posted.now c.loop-i.i c.requires.len c.loop-i-test.false in
    values_inside c.args.step.now.place c.args.time (relaxed_values c.args.step.now.factor c.args.read.now c.args.posted.now)
    (subst (All IsValue) all c.loop-i.invariant.1)

no_some : (o : Option ℤ) → ((v : ℤ) → o ≡ Some v → ⊥) → IsSome o → ⊥
no_some None other some = cc
no_some (Some v) other some = other v refl

pub returns-in_default-clause-outside : goal.returns-in_default-clause-outside
returns-in_default-clause-outside c =
    let read = c.requires.in_range c.loop-i.i (pos 0) (omega (arith, c.requires.len, c.loop-i-test.true)) in
    let x = c.value_from.ensures ∙ kept64 (get_or c.args.read.now c.loop-i.i (pos 0)) (omega (arith, read)) in
    let y = get_or_read c.args.posted.now c.loop-i.i c.index-posted-i.result c.loop-i-test.true c.index-posted-i.is (pos 0) in
    let is : relaxed c.value_from.result c.index-posted-i.result c.args.step.now.factor ≡ get_or (relaxed_values c.args.step.now.factor c.args.read.now c.args.posted.now) c.loop-i.i (pos 0) =
    ap (λ (n : ℤ). relaxed n c.index-posted-i.result c.args.step.now.factor) x
    ∙ ap (λ (n : ℤ). relaxed (get_or c.args.read.now c.loop-i.i (pos 0)) n c.args.step.now.factor) y
    ∙ sym (relaxed_values-get_or c.args.step.now.factor c.args.read.now c.args.posted.now c.loop-i.i (pos 0) (pos 0) (omega (arith, c.requires.len, c.loop-i-test.true)) c.loop-i-test.true) in
    let none : IsSome c.relax.result → ⊥ = no_some c.relax.result c.in_default.not-Some in
    values_outside c.args.step.now.place c.args.time (relaxed_values c.args.step.now.factor c.args.read.now c.args.posted.now) c.loop-i.i
    (subst (All IsValue) c.loop-i.invariant.0 c.loop-i.invariant.1)
    (omega (arith, length-relaxed_values c.args.step.now.factor c.args.read.now c.args.posted.now c.requires.len, c.loop-i-test.true))
    (λ small. none (c.relax.ensures.in_range.1 (rw is small)))
