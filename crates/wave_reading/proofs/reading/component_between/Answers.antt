use Rattle.std.proofs.Common.{◌≡◌, ◌-◌, ◌*◌, ◌^◌, ◌≤◌, ℤ, ◌+ℤ◌, ◌-ℤ◌, ◌*ℤ◌, pos, unsigned_abs, arith, refl, ap, ◌∙◌}
use mir.Syntax.{w64, w128}
use mir.Val.{to_z, of_z, SFits}
use Rattle.std.proofs.lemmas.Int.{to_z-of_z, fits_signed_from_abs}
use Rattle.fixed_num.specs.Numbers.{IsValue, quotient}
use Rattle.waveform.specs.WaveValue.{component_between}
use Rattle.waveform.proofs.Lines.{component_between-IsBetween, IsValue-between, part-le}
use Rattle.wave_reading.proofs.reading.component_between.Goals as goal

-- the rounded part of the change
part_is : (c : goal.After-quot_even) → c.quot_even.result ≡ quotient ((c.args.v1 -ℤ c.args.v0) *ℤ pos (c.args.span.t - c.args.span.start)) (c.args.span.end - c.args.span.start)
part_is c =
    let gain = c.gain.ensures ∙ rw (to_z-of_z w64 c.args.v0 c.ranges.v0, to_z-of_z w64 c.args.v1 c.ranges.v1) refl in
    let change = to_z-of_z w128 c.gain.result (record { sfits = c.gain.type_inv }) ∙ gain in
    let span = to_z-of_z w128 c.from.result (record { sfits = c.from.type_inv }) ∙ c.from.ensures in
    c.quot_even.ensures.value ∙ ap (λ (a : ℤ). quotient a (unsigned_abs (to_z w128 (of_z w128 c.from.result)))) change
    ∙ ap (λ (b : ℤ). quotient ((c.args.v1 -ℤ c.args.v0) *ℤ pos (c.args.span.t - c.args.span.start)) (unsigned_abs b)) span

part_bound : (c : goal.After-quot_even) → unsigned_abs c.quot_even.result ≤ 2 * 10 ^ 13
part_bound c =
    rw (part_is c)
    (part-le c.args.v0 c.args.v1 (c.args.span.t - c.args.span.start) (c.args.span.end - c.args.span.start) (omega (arith, c.requires)) (omega (arith, c.requires)) c.requires.first c.requires.last)

part_back : (c : goal.After-quot_even) → to_z w128 (of_z w128 c.quot_even.result) ≡ c.quot_even.result
part_back c = to_z-of_z w128 c.quot_even.result (record { sfits = c.quot_even.type_inv })

pub overflow_cast-result : goal.overflow_cast-result
overflow_cast-result c = rw (part_back c) (fits_signed_from_abs w64 c.quot_even.result (omega (arith, part_bound c)))

component_is : (c : goal.After-quot_even) → c.args.v0 +ℤ c.quot_even.result ≡ component_between c.args.span.start c.args.span.end c.args.span.t c.args.v0 c.args.v1
unfolding component_between
component_is c = ap (λ (n : ℤ). c.args.v0 +ℤ n) (part_is c)

in_range : (c : goal.After-quot_even) → IsValue (component_between c.args.span.start c.args.span.end c.args.span.t c.args.v0 c.args.v1)
in_range c =
    IsValue-between c.args.v0 c.args.v1 (component_between c.args.span.start c.args.span.end c.args.span.t c.args.v0 c.args.v1)
    (component_between-IsBetween c.args.span.start c.args.span.end c.args.span.t c.args.v0 c.args.v1 (omega (arith, c.requires)) (omega (arith, c.requires)) (omega (arith, c.requires)))
    c.requires.first c.requires.last

sum_is : (c : goal.After-quot_even) → to_z w64 (of_z w64 c.args.v0) +ℤ to_z w64 (of_z w64 (to_z w128 (of_z w128 c.quot_even.result))) ≡ component_between c.args.span.start c.args.span.end c.args.span.t c.args.v0 c.args.v1
sum_is c =
    rw (to_z-of_z w64 c.args.v0 c.ranges.v0, part_back c, to_z-of_z w64 c.quot_even.result (fits_signed_from_abs w64 c.quot_even.result (omega (arith, part_bound c))))
    (component_is c)

component_fits : (c : goal.After-quot_even) → SFits w64 (component_between c.args.span.start c.args.span.end c.args.span.t c.args.v0 c.args.v1)
component_fits c = fits_signed_from_abs w64 (component_between c.args.span.start c.args.span.end c.args.span.t c.args.v0 c.args.v1) (omega (arith, in_range c))

pub overflow_add-result : goal.overflow_add-result
overflow_add-result c = rw (sum_is c) (component_fits c)

returned : (c : goal.After-quot_even) → to_z w64 (of_z w64 (to_z w64 (of_z w64 c.args.v0) +ℤ to_z w64 (of_z w64 (to_z w128 (of_z w128 c.quot_even.result))))) ≡ component_between c.args.span.start c.args.span.end c.args.span.t c.args.v0 c.args.v1
returned c = rw (sum_is c) (to_z-of_z w64 (component_between c.args.span.start c.args.span.end c.args.span.t c.args.v0 c.args.v1) (component_fits c))

pub returns-clause-component : goal.returns-clause-component
returns-clause-component c = returned c

pub returns-clause-in_range : goal.returns-clause-in_range
returns-clause-in_range c = rw (returned c) (in_range c)
