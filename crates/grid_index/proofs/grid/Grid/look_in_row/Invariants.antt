use Rattle.std.proofs.Common.{◌≤◌, [], ◌∷◌}
use Rattle.grid_index.specs.Looking.{HasLooked}
use Rattle.grid_index.proofs.grid.Grid.look_in_row.Given as goal

abbrev pub invariant-loop-n : goal.invariant-loop-n
invariant-loop-n g l = record {
  from : l.fn.numbers.first ≤ l.n;
  upto : l.n ≤ l.fn.numbers.end;
  looked : HasLooked l.self l.point [] l.front l.fn.numbers.first l.n l.fn.search l.search;
}
