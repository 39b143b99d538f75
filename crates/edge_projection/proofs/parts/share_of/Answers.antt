use Rattle.std.proofs.Common.{◌≡◌, ◌^◌, ℤ, false, true, pos, ◌-ℤ◌, ◌*ℤ◌, arith, ap, ◌∙◌}
use mir.Syntax.{w64, w128}
use mir.Val.{to_z, of_z}
use Rattle.std.proofs.lemmas.Int.{to_z-of_z, fits_signed_from_abs}
use Rattle.fixed_num.specs.Numbers.{quotient}
use Rattle.edge_projection.specs.MappedField.{share_of}
use Rattle.edge_projection.proofs.RoundedParts.{part-share, part_of-le}
use Rattle.edge_projection.proofs.parts.share_of.Goals as goal

returned : (c : goal.After-step) → to_z w64 (of_z w64 (to_z w128 (of_z w128 c.step.result))) ≡ share_of c.args.weight c.args.x
returned c =
    ap (λ (n : ℤ). to_z w64 (of_z w64 n)) (to_z-of_z w128 c.step.result (record { sfits = c.step.type_inv }))
    ∙ to_z-of_z w64 c.step.result (fits_signed_from_abs w64 c.step.result (omega (arith, c.step.ensures.bound)))
    ∙ c.step.ensures.value
    ∙ ap (λ (n : ℤ). quotient ((n -ℤ pos 0) *ℤ pos c.args.weight) (10 ^ 6)) (to_z-of_z w64 c.args.x c.ranges.x)
    ∙ part-share c.args.weight c.args.x

pub returns-clause-value : goal.returns-clause-value
returns-clause-value c = returned c

pub returns-clause-bound : goal.returns-clause-bound
returns-clause-bound c = rw (returned c) (part_of-le false c.args.weight c.args.x c.requires.weight c.requires.value)

pub returns-clause-rest : goal.returns-clause-rest
returns-clause-rest c = rw (returned c) (part_of-le true c.args.weight c.args.x c.requires.weight c.requires.value)
