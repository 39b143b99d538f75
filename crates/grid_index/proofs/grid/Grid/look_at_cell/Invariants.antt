use Rattle.std.proofs.Common.{◌≡◌, ℕ, ◌+◌, ◌<◌, ◌≤◌, length, get_or}
use Rattle.grid_index.specs.Boxes.{cell_cost}
use Rattle.grid_index.specs.Candidates.{Improves, GoesBefore}
use Rattle.grid_index.specs.Places.{places_in}
use Rattle.grid_index.proofs.Chained.{count_below}
use Rattle.grid_index.proofs.grid.Grid.look_at_cell.Given as goal

-- the vertices of the cell from `end` on are looked at
abbrev pub invariant-loop-end : goal.invariant-loop-end
invariant-loop-end g l = record {
  within : l.end ≤ length l.self.mesh;
  last : (u : ℕ) → l.end ≡ u + 1 → get_or (places_in l.self.cells l.self.mesh) u 0 ≡ l.cell;
  steps : l.search.steps + count_below (places_in l.self.cells l.self.mesh) l.cell l.end ≡ l.fn.search.steps + cell_cost (places_in l.self.cells l.self.mesh) l.cell;
  improved : Improves l.self.mesh l.point l.fn.search.best l.search.best;
  looked : (u : ℕ) → l.end ≤ u → u < length l.self.mesh → get_or (places_in l.self.cells l.self.mesh) u 0 ≡ l.cell → GoesBefore l.self.mesh l.point l.search.best u;
}

abbrev pub decreases-loop-end : goal.decreases-loop-end
decreases-loop-end g l = l.end
