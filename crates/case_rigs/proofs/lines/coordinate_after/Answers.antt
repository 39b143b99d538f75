use Rattle.std.proofs.Common.{◌≡◌, ◌*◌, ◌^◌, ◌≤◌, ℤ, ◌+ℤ◌, ◌-ℤ◌, ◌*ℤ◌, pos, unsigned_abs, arith, refl, ap, ◌∙◌}
use mir.Syntax.{w64, w128}
use mir.Val.{to_z, of_z, SFits}
use Rattle.std.proofs.lemmas.Int.{to_z-of_z, fits_signed_from_abs}
use Rattle.fixed_num.specs.Numbers.{IsCoordinate, quotient}
use Rattle.case_rigs.specs.Lines.{coordinate_after}
use Rattle.case_rigs.proofs.LineParts.{part_small, coordinate_after-range}
use Rattle.case_rigs.proofs.lines.coordinate_after.Goals as goal

-- the rounded part of the change
part_is : (c : goal.After-quot_even) → c.quot_even.result ≡ quotient ((c.args.to -ℤ c.args.from) *ℤ pos c.args.over) c.args.spans
part_is c =
    let told = c.change.ensures ∙ rw (to_z-of_z w64 c.args.from c.ranges.from, to_z-of_z w64 c.args.to c.ranges.to) refl in
    let changed = to_z-of_z w128 c.change.result (record { sfits = c.change.type_inv }) ∙ told in
    let spans = to_z-of_z w128 c.from.result (record { sfits = c.from.type_inv }) ∙ c.from.ensures in
    c.quot_even.ensures.value ∙ ap (λ (a : ℤ). quotient a (unsigned_abs (to_z w128 (of_z w128 c.from.result)))) changed
    ∙ ap (λ (b : ℤ). quotient ((c.args.to -ℤ c.args.from) *ℤ pos c.args.over) (unsigned_abs b)) spans

part_bound : (c : goal.After-quot_even) → unsigned_abs c.quot_even.result ≤ 2 * 10 ^ 13
part_bound c = rw (part_is c) (part_small c.args.over c.args.spans c.args.from c.args.to c.requires.some c.requires.over c.requires.from c.requires.to)

part_back : (c : goal.After-quot_even) → to_z w128 (of_z w128 c.quot_even.result) ≡ c.quot_even.result
part_back c = to_z-of_z w128 c.quot_even.result (record { sfits = c.quot_even.type_inv })

pub overflow_cast-result : goal.overflow_cast-result
overflow_cast-result c = rw (part_back c) (fits_signed_from_abs w64 c.quot_even.result (omega (arith, part_bound c)))

coordinate_is : (c : goal.After-quot_even) → c.args.from +ℤ c.quot_even.result ≡ coordinate_after c.args.over c.args.spans c.args.from c.args.to
coordinate_is c = ap (λ (n : ℤ). c.args.from +ℤ n) (part_is c)

sum_is : (c : goal.After-quot_even) → to_z w64 (of_z w64 c.args.from) +ℤ to_z w64 (of_z w64 (to_z w128 (of_z w128 c.quot_even.result))) ≡ coordinate_after c.args.over c.args.spans c.args.from c.args.to
sum_is c =
    rw (to_z-of_z w64 c.args.from c.ranges.from, part_back c, to_z-of_z w64 c.quot_even.result (fits_signed_from_abs w64 c.quot_even.result (omega (arith, part_bound c))))
    (coordinate_is c)

in_range : (c : goal.After-quot_even) → IsCoordinate (coordinate_after c.args.over c.args.spans c.args.from c.args.to)
in_range c = coordinate_after-range c.args.over c.args.spans c.args.from c.args.to c.requires.some c.requires.over c.requires.from c.requires.to

coordinate_fits : (c : goal.After-quot_even) → SFits w64 (coordinate_after c.args.over c.args.spans c.args.from c.args.to)
coordinate_fits c = fits_signed_from_abs w64 (coordinate_after c.args.over c.args.spans c.args.from c.args.to) (omega (arith, in_range c))

pub overflow_add-result : goal.overflow_add-result
overflow_add-result c = rw (sum_is c) (coordinate_fits c)

pub returns : goal.returns
returns c = rw (sum_is c) (to_z-of_z w64 (coordinate_after c.args.over c.args.spans c.args.from c.args.to) (coordinate_fits c))
