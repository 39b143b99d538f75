use Rattle.std.proofs.Common.{pos, arith, rules}
use Rattle.std.proofs.lemmas.List.FromFn.{fill_by_all}
use Rattle.grid_index.specs.Cells.{axis_on}
use Rattle.grid_index.proofs.axis.axes_on.Goals as goal

pub returns : goal.returns
returns g c =
    fill_by_all (axis_on c.args.mesh.now c.args.per_axis) c.loop-i.axes g.row.D (record { least = pos 0; width = 0 }) c.loop-i.invariant.len
    (λ k inside. c.loop-i.invariant.each k (record { least = pos 0; width = 0 }) (omega arith))
