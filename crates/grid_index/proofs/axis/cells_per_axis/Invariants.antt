use Rattle.std.proofs.Common.{◌-◌, ◌^◌, ◌<◌, ◌≤◌}
use Rattle.grid_index.proofs.axis.cells_per_axis.Given as goal

abbrev pub invariant-loop-per_axis : goal.invariant-loop-per_axis
invariant-loop-per_axis l = record {
  some : 0 < l.per_axis;
  few : l.per_axis ^ l.dimensions ≤ l.count;
  small : l.per_axis ≤ l.count;
}

abbrev pub decreases-loop-per_axis : goal.decreases-loop-per_axis
decreases-loop-per_axis l = l.count - l.per_axis
