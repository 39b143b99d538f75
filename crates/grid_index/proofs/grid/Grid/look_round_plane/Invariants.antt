use Rattle.std.proofs.Common.{◌≤◌, [], ◌∷◌}
use Rattle.grid_index.proofs.Looks.{HasLookedUpto}
use Rattle.grid_index.proofs.grid.Grid.look_round_plane.Given as goal

abbrev pub invariant-loop-n : goal.invariant-loop-n
invariant-loop-n g l = record {
  from : l.fn.known.rows.first ≤ l.n;
  upto : l.n ≤ l.fn.known.rows.end;
  looked : HasLookedUpto l.self l.point l.fn.within.rows l.fn.known.rows (l.fn.within.row ∷ []) (l.fn.known.row ∷ []) l.front l.n l.fn.search l.search;
}
