use Rattle.std.proofs.Common.{ℕ, ◌-◌, get_or, pos}
use Rattle.grid_index.specs.Boxes.{span_within}
use Rattle.grid_index.proofs.Padding.{IsPaddedUpto}
use Rattle.grid_index.proofs.grid.Grid.box_within.Given as goal

abbrev pub invariant-loop-i : goal.invariant-loop-i
invariant-loop-i g l =
    IsPaddedUpto (3 - g.row.D) 3 (λ (k : ℕ). span_within l.self.cells.per_axis l.reach (get_or l.self.cells.axes k (record { least = pos 0; width = 0 })) (get_or l.point k (pos 0))) l.spans l.i
