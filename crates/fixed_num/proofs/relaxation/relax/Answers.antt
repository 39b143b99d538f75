use Rattle.std.proofs.Common.{◌≡◌, ◌*◌, ◌^◌, ◌≤◌, ℤ, ◌+ℤ◌, ◌-ℤ◌, ◌*ℤ◌, unsigned_abs, ◌∙◌, arith, ap}
use mir.Syntax.{w64, w128}
use mir.Val.{to_z, of_z}
use Rattle.std.proofs.lemmas.Int.{ints, to_z-of_z, fits_signed_from_abs}
use Rattle.fixed_num.specs.Numbers.{IsValue, quotient}
use Rattle.fixed_num.specs.Relaxation.{relaxed}
use Rattle.fixed_num.proofs.relaxation.relax.Goals as goal

x_range : (c : goal.After-value_of) → IsValue c.args.x
x_range c = rw c.get-2.ensures.units at c.get-2.ensures.range

y_range : (c : goal.After-value_of) → IsValue c.args.y
y_range c = rw c.get.ensures.units at c.get.ensures.range

way_is : (c : goal.After-value_of) → c.from-way.result ≡ c.args.y -ℤ c.args.x
way_is c =
    let y = to_z-of_z w64 c.get.result (record { sfits = c.get.type_inv }) ∙ c.get.ensures.units in
    let x = to_z-of_z w64 c.get-2.result (record { sfits = c.get-2.type_inv }) ∙ c.get-2.ensures.units in
    let small : unsigned_abs (c.args.y -ℤ c.args.x) ≤ 2 * 10 ^ 13 = omega (arith, ints, x_range c, y_range c) in
    c.from-way.ensures
    ∙ ap (λ (n : ℤ). to_z w64 (of_z w64 (n -ℤ to_z w64 (of_z w64 c.get-2.result)))) y
    ∙ ap (λ (n : ℤ). to_z w64 (of_z w64 (c.args.y -ℤ n))) x
    ∙ to_z-of_z w64 (c.args.y -ℤ c.args.x) (fits_signed_from_abs w64 (c.args.y -ℤ c.args.x) (omega (arith, small)))

step_is : (c : goal.After-value_of) → c.scaled.result ≡ quotient (c.args.w *ℤ (c.args.y -ℤ c.args.x)) (10 ^ 6)
step_is c =
    let w = to_z-of_z w64 c.get-4.result (record { sfits = c.get-4.type_inv }) ∙ c.get-4.ensures.units in
    let way = to_z-of_z w128 c.from-way.result (record { sfits = c.from-way.type_inv }) ∙ way_is c in
    c.scaled.ensures.value
    ∙ ap (λ (n : ℤ). quotient (n *ℤ to_z w128 (of_z w128 c.from-way.result)) (10 ^ 6)) w
    ∙ ap (λ (n : ℤ). quotient (c.args.w *ℤ n) (10 ^ 6)) way

from_is : (c : goal.After-value_of) → c.from.result ≡ c.args.x
from_is c = c.from.ensures ∙ to_z-of_z w64 c.get-3.result (record { sfits = c.get-3.type_inv }) ∙ c.get-3.ensures.units

sum_is : (c : goal.After-value_of) → to_z w128 (of_z w128 (to_z w128 (of_z w128 c.from.result) +ℤ to_z w128 (of_z w128 c.scaled.result))) ≡ relaxed c.args.x c.args.y c.args.w
sum_is c =
    let x = to_z-of_z w128 c.from.result (record { sfits = c.from.type_inv }) ∙ from_is c in
    let step = to_z-of_z w128 c.scaled.result (record { sfits = c.scaled.type_inv }) in
    let small : unsigned_abs (c.args.x +ℤ c.scaled.result) ≤ 3 * 10 ^ 16 = omega (arith, ints, x_range c, c.scaled.ensures.bound) in
    ap (λ (n : ℤ). to_z w128 (of_z w128 (n +ℤ to_z w128 (of_z w128 c.scaled.result)))) x
    ∙ ap (λ (n : ℤ). to_z w128 (of_z w128 (c.args.x +ℤ n))) step
    ∙ to_z-of_z w128 (c.args.x +ℤ c.scaled.result) (fits_signed_from_abs w128 (c.args.x +ℤ c.scaled.result) (omega (arith, small)))
    ∙ ap (λ (n : ℤ). c.args.x +ℤ n) (step_is c)

pub returns-clause-in_range : goal.returns-clause-in_range
returns-clause-in_range c = rw (sum_is c) at c.value_of.ensures.in_range

pub returns-clause-same : goal.returns-clause-same
returns-clause-same c = rw (sum_is c) at c.value_of.ensures.same
