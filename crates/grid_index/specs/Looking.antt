-- What a search has looked at. The project's own.
use Rattle.std.specs.Prelude.{◌≡◌, ℕ, ◌+◌, ◌*◌, ◌^◌, ◌<◌, ◌≤◌, ℤ, List, length, slice_index}
use Rattle.grid_index.specs.Boxes.{IsInBox, AreNested, box_sum, branch_sum, cell_cost, total}
use Rattle.grid_index.specs.Candidates.{GoesBefore, IsFound, Improves}
use Rattle.grid_index.specs.GriddedMesh.{GriddedMesh}
use Rattle.grid_index.specs.Places.{places_in}
use Rattle.grid_index.specs.declared.candidate.Search.{Search}
use Rattle.grid_index.specs.declared.spans.Span.{Span}

-- what looking at each cell costs
abbrev pub cost_in : GriddedMesh → (cell : ℕ) → ℕ
cost_in g = cell_cost (places_in g.cells g.mesh)

-- the cell of a vertex
abbrev pub place_of : GriddedMesh → (u : ℕ) → ℕ
place_of g u = slice_index (places_in g.cells g.mesh) u

-- a search may look through cells with the digits in front, then a number of a span, then digits of a box
pub record MayLook (count : ℕ) (g : GriddedMesh) (point : List ℤ) (within : List Span) (front first last : ℕ) (search : Search) : Type 0 where
  pub ordered : first ≤ last
  pub numbers : last ≤ g.cells.per_axis
  pub cells : (n cell : ℕ) → first ≤ n → n < last → IsInBox g.cells.per_axis within (front * g.cells.per_axis + n) cell → cell < count
  pub found : IsFound g.mesh point search.best
  pub room : search.steps + total (branch_sum (cost_in g) g.cells.per_axis within front) last < 2 ^ 64 + total (branch_sum (cost_in g) g.cells.per_axis within front) first

-- it has done so, from one state to another: every step is counted, and every vertex of these cells is behind the best
pub record HasLooked (g : GriddedMesh) (point : List ℤ) (within : List Span) (front first last : ℕ) (old new : Search) : Type 0 where
  pub steps : new.steps + total (branch_sum (cost_in g) g.cells.per_axis within front) first ≡ old.steps + total (branch_sum (cost_in g) g.cells.per_axis within front) last
  pub improved : Improves g.mesh point old.best new.best
  pub looked : (u n : ℕ) → u < length g.mesh → first ≤ n → n < last → IsInBox g.cells.per_axis within (front * g.cells.per_axis + n) (place_of g u) → GoesBefore g.mesh point new.best u

-- a search may look through the cells of a box that are not in a box inside it
pub record MayLookRound (count : ℕ) (g : GriddedMesh) (point : List ℤ) (within known : List Span) (front : ℕ) (search : Search) : Type 0 where
  pub nested : AreNested g.cells.per_axis within known
  pub cells : (cell : ℕ) → IsInBox g.cells.per_axis within front cell → cell < count
  pub found : IsFound g.mesh point search.best
  pub room : search.steps + box_sum (cost_in g) g.cells.per_axis within front < 2 ^ 64 + box_sum (cost_in g) g.cells.per_axis known front

-- it has done so: if the vertices in the inner box were behind the best, so is every vertex of the box
pub record HasLookedRound (g : GriddedMesh) (point : List ℤ) (within known : List Span) (front : ℕ) (old new : Search) : Type 0 where
  pub steps : new.steps + box_sum (cost_in g) g.cells.per_axis known front ≡ old.steps + box_sum (cost_in g) g.cells.per_axis within front
  pub improved : Improves g.mesh point old.best new.best
  pub looked : (u : ℕ) → u < length g.mesh → IsInBox g.cells.per_axis within front (place_of g u)
      → (IsInBox g.cells.per_axis known front (place_of g u) → GoesBefore g.mesh point old.best u) → GoesBefore g.mesh point new.best u
