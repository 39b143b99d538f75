use Rattle.std.proofs.Common.{◌≤◌, [], ◌∷◌}
use Rattle.grid_index.proofs.Looks.{HasLookedUpto}
use Rattle.grid_index.proofs.grid.Grid.look_round.Given as goal

abbrev pub invariant-loop-n : goal.invariant-loop-n
invariant-loop-n g l = record {
  from : l.fn.known.planes.first ≤ l.n;
  upto : l.n ≤ l.fn.known.planes.end;
  looked : HasLookedUpto l.self l.point l.fn.within.planes l.fn.known.planes (l.fn.within.rows ∷ l.fn.within.row ∷ []) (l.fn.known.rows ∷ l.fn.known.row ∷ []) 0 l.n l.fn.search l.search;
}
