use Rattle.std.proofs.Common.{◌≡◌, ℕ, ◌<◌, length, get_or}
use Rattle.grid_index.specs.Cells.{axis_on}
use Rattle.grid_index.specs.declared.axis.Axis.{Axis}
use Rattle.grid_index.proofs.axis.axes_on.Given as goal

abbrev pub invariant-loop-i : goal.invariant-loop-i
invariant-loop-i g l = record {
  len : length l.axes ≡ g.row.D;
  each : (k : ℕ) (d : Axis) → k < l.i → get_or l.axes k d ≡ axis_on l.mesh l.per_axis k;
}
