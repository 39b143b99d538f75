use Rattle.std.proofs.Common.{◌≡◌, take, fold, get_or, []}
use Rattle.std.specs.Int.{int_min, int_max}
use Rattle.grid_index.specs.Cells.{coordinate, coordinates}
use Rattle.grid_index.proofs.axis.axis_on.Given as goal

abbrev pub invariant-loop-v : goal.invariant-loop-v
invariant-loop-v g l = record {
  least : l.least ≡ fold int_min (coordinate (get_or l.mesh 0 []) l.i) (take l.v (coordinates l.mesh l.i));
  greatest : l.greatest ≡ fold int_max (coordinate (get_or l.mesh 0 []) l.i) (take l.v (coordinates l.mesh l.i));
}
