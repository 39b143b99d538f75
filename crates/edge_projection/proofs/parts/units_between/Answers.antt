use Rattle.std.proofs.Common.{◌≡◌, ◌*◌, ◌^◌, ◌≤◌, ℤ, pos, ◌+ℤ◌, ◌-ℤ◌, ◌*ℤ◌, unsigned_abs, refl, arith, ap, ◌∙◌}
use mir.Syntax.{w64, w128}
use mir.Val.{to_z, of_z}
use Rattle.std.proofs.lemmas.Int.{ints, to_z-of_z, fits_signed_from_abs}
use Rattle.fixed_num.specs.Numbers.{quotient}
use Rattle.edge_projection.specs.MappedField.{between}
use Rattle.edge_projection.proofs.RoundedParts.{between-IsValue}
use Rattle.edge_projection.proofs.parts.units_between.Goals as goal

sum_is : (c : goal.After-step) → to_z w128 (of_z w128 (to_z w128 (of_z w128 c.from.result) +ℤ to_z w128 (of_z w128 c.step.result))) ≡ between c.args.weight c.args.x c.args.y
unfolding between
sum_is c =
    let first = to_z-of_z w128 c.from.result (record { sfits = c.from.type_inv }) ∙ c.from.ensures ∙ to_z-of_z w64 c.args.x c.ranges.x in
    let step = to_z-of_z w128 c.step.result (record { sfits = c.step.type_inv }) in
    let part : c.step.result ≡ quotient ((c.args.y -ℤ c.args.x) *ℤ pos c.args.weight) (10 ^ 6) =
    c.step.ensures.value ∙ rw (to_z-of_z w64 c.args.x c.ranges.x, to_z-of_z w64 c.args.y c.ranges.y) refl in
    let small : unsigned_abs (c.args.x +ℤ c.step.result) ≤ 3 * 10 ^ 13 = omega (arith, ints, c.requires.first, c.step.ensures.bound) in
    ap (λ (n : ℤ). to_z w128 (of_z w128 (n +ℤ to_z w128 (of_z w128 c.step.result)))) first
    ∙ ap (λ (n : ℤ). to_z w128 (of_z w128 (c.args.x +ℤ n))) step
    ∙ to_z-of_z w128 (c.args.x +ℤ c.step.result) (fits_signed_from_abs w128 (c.args.x +ℤ c.step.result) (omega (arith, small)))
    ∙ ap (λ (n : ℤ). c.args.x +ℤ n) part

pub returns-clause-value : goal.returns-clause-value
returns-clause-value c = sum_is c

pub returns-clause-range : goal.returns-clause-range
returns-clause-range c = rw (sum_is c) (between-IsValue c.args.weight c.args.x c.args.y c.requires.weight c.requires.first c.requires.last)
