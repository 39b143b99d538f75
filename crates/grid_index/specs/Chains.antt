-- The vertices of each cell as a chain, from the last to the first. The project's own.
use Rattle.std.specs.Prelude.{◌≡◌, ℕ, ◌+◌, ◌<◌, ◌≤◌, List, length, slice_index}

-- of the vertices before v, the last one in a cell is the one before `end`; none is where that is 0
pub record IsEndBelow (places : List ℕ) (cell v «end» : ℕ) : Type 0 where
  pub within : «end» ≤ v
  pub last : (u : ℕ) → «end» ≡ u + 1 → slice_index places u ≡ cell
  pub none_after : (u : ℕ) → «end» ≤ u → u < v → slice_index places u ≡ cell → ⊥

-- of each cell the end of its vertices, and of each vertex the end of those before it in its cell
pub record AreChainsOf (places : List ℕ) (cells : ℕ) (ends before : List ℕ) : Type 0 where
  pub one_for_each_cell : length ends ≡ cells
  pub one_for_each : length before ≡ length places
  pub of_cells : (cell : ℕ) → cell < cells → IsEndBelow places cell (length places) (slice_index ends cell)
  pub of_vertices : (v : ℕ) → v < length places → IsEndBelow places (slice_index places v) v (slice_index before v)
