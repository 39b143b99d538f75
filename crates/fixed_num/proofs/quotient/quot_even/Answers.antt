use Rattle.std.proofs.Common.{rules, arith, ◌≡◌, unsigned_abs, sym, ◌∙◌, ap, subst, ℤ}
use mir.Syntax.{w128}
use mir.Val.{SFits}
use Rattle.std.proofs.lemmas.Int.{ints, to_z-of_z, to_z_pos}
use Rattle.fixed_num.specs.Numbers.{nearest_of, IsRoundedQuotient}
use Rattle.fixed_num.proofs.Quotients.{quotient_of_negative, quotient_of_natural, natural_fits, quotient-IsRoundedQuotient, only_quotient}
use Rattle.fixed_num.proofs.quotient.quot_even.Goals as goal
use Rattle.fixed_num.proofs.quotient.quot_even.Goals.{After-nearest-magnitude}

-- the magnitude is the rounded quotient of the magnitudes
same_magnitude : (c : After-nearest-magnitude) → c.nearest-magnitude.result ≡ nearest_of (unsigned_abs c.args.a) (unsigned_abs c.args.b)
same_magnitude c =
    let a = ap unsigned_abs (to_z-of_z w128 c.args.a c.ranges.a) in
    let b = ap unsigned_abs (to_z-of_z w128 c.args.b c.ranges.b) in
    cc (c.nearest-magnitude.ensures.value, c.unsigned_abs.ensures.value, c.unsigned_abs-2.ensures.value)

pub returns-then-a-lt0-clause-value : goal.returns-then-a-lt0-clause-value
returns-then-a-lt0-clause-value c =
    let fits : SFits w128 c.negated.result = search rules in
    let below = rw (to_z-of_z w128 c.args.a c.ranges.a) at c.if-a-lt0.true in
    to_z-of_z w128 c.negated.result fits ∙ c.negated.ensures ∙ quotient_of_negative c.args.a (unsigned_abs c.args.b) _ below (same_magnitude ((goal.at.returns-then-a-lt0-clause-value c).After-nearest-magnitude))

pub returns-else-a-lt0-clause-value : goal.returns-else-a-lt0-clause-value
returns-else-a-lt0-clause-value c =
    let above = rw (to_z-of_z w128 c.args.a c.ranges.a) at c.if-a-lt0.false in
    let same = same_magnitude ((goal.at.returns-else-a-lt0-clause-value c).After-nearest-magnitude) in
    let magnitude = rw (to_z-of_z w128 c.args.a c.ranges.a) at c.unsigned_abs.ensures.value in
    let small = natural_fits c.args.a _ above c.ranges.a (omega (arith, magnitude, c.nearest-magnitude.ensures.bound)) in
    to_z_pos w128 _ small ∙ quotient_of_natural c.args.a (unsigned_abs c.args.b) _ above same

pub returns-then-a-lt0-clause-nearest : goal.returns-then-a-lt0-clause-nearest
returns-then-a-lt0-clause-nearest c = subst (λ (n : ℤ). IsRoundedQuotient c.args.a (unsigned_abs c.args.b) n) (sym (returns-then-a-lt0-clause-value c)) (quotient-IsRoundedQuotient c.args.a (unsigned_abs c.args.b) (omega (arith, ints)))

pub returns-else-a-lt0-clause-nearest : goal.returns-else-a-lt0-clause-nearest
returns-else-a-lt0-clause-nearest c = subst (λ (n : ℤ). IsRoundedQuotient c.args.a (unsigned_abs c.args.b) n) (sym (returns-else-a-lt0-clause-value c)) (quotient-IsRoundedQuotient c.args.a (unsigned_abs c.args.b) (omega (arith, ints)))

pub returns-then-a-lt0-clause-only : goal.returns-then-a-lt0-clause-only
returns-then-a-lt0-clause-only c = λ n is. only_quotient c.args.a _ n (unsigned_abs c.args.b) (omega (arith, ints)) (returns-then-a-lt0-clause-nearest c) is

pub returns-else-a-lt0-clause-only : goal.returns-else-a-lt0-clause-only
returns-else-a-lt0-clause-only c = λ n is. only_quotient c.args.a _ n (unsigned_abs c.args.b) (omega (arith, ints)) (returns-else-a-lt0-clause-nearest c) is
