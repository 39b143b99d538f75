use Rattle.std.proofs.Common.{◌≡◌, ◌^◌, ℤ, pos, ◌-ℤ◌, ◌*ℤ◌, arith, refl, ap, ◌∙◌}
use mir.Syntax.{w64, w128}
use mir.Val.{to_z, of_z}
use Rattle.std.proofs.lemmas.Int.{to_z-of_z}
use Rattle.fixed_num.specs.Numbers.{quotient}
use Rattle.waveform.proofs.Lines.{part-le}
use Rattle.edge_projection.proofs.parts.step.Goals as goal

returned : (c : goal.After-quot_even) → to_z w128 (of_z w128 c.quot_even.result) ≡ quotient ((c.args.y -ℤ c.args.x) *ℤ pos c.args.weight) (10 ^ 6)
returned c =
    let scaled = c.scaled.ensures ∙ rw (to_z-of_z w64 c.args.x c.ranges.x, to_z-of_z w64 c.args.y c.ranges.y) refl in
    let change = to_z-of_z w128 c.scaled.result (record { sfits = c.scaled.type_inv }) ∙ scaled in
    to_z-of_z w128 c.quot_even.result (record { sfits = c.quot_even.type_inv })
    ∙ c.quot_even.ensures.value ∙ ap (λ (a : ℤ). quotient a (10 ^ 6)) change

pub returns-clause-value : goal.returns-clause-value
returns-clause-value c = returned c

pub returns-clause-bound : goal.returns-clause-bound
returns-clause-bound c = rw (returned c) (part-le c.args.x c.args.y c.args.weight (10 ^ 6) (omega arith) c.requires.weight c.requires.first c.requires.last)
