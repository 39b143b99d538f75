use Rattle.std.proofs.Common.{◌≡◌, ℕ, ◌-◌, ◌*◌, ◌^◌, ◌<◌, ◌≤◌, length}
use Rattle.mesh_data.specs.Nearest.{distance_to}
use Rattle.grid_index.specs.Block.{least_width}
use Rattle.grid_index.proofs.Regions.{IsRegion, HasSearched}
use Rattle.grid_index.proofs.grid.Grid.nearest.Given as goal

-- the box of this reach was looked through; the reach is small while a vertex may be near
abbrev pub invariant-loop-farther : goal.invariant-loop-farther
invariant-loop-farther g l = record {
  small : l.reach ≤ 10 ^ 13;
  region : IsRegion g.row.D l.self l.p l.reach l.known;
  searched : HasSearched l.self l.p l.reach l.fn.steps l.search;
  near : (u : ℕ) → u < length l.self.mesh → distance_to l.self.mesh l.p u ≤ least_width l.self.cells.axes * least_width l.self.cells.axes → l.reach ≤ least_width l.self.cells.axes;
}

abbrev pub decreases-loop-farther : goal.decreases-loop-farther
decreases-loop-farther g l = 10 ^ 13 - l.reach
