-- How the box round a mesh is cut into cells. The project's own.
use Rattle.std.specs.Prelude.{◌≡◌, ℕ, ◌+◌, ◌/◌, ◌^◌, ◌<◌, ◌≤◌, ℤ, pos, ◌-ℤ◌, unsigned_abs, List, [], length, map, fold, slice_index_or}
use Rattle.std.specs.List.{range_with_len}
use Rattle.std.specs.Int.{int_min, int_max}
use Rattle.grid_index.specs.declared.axis.Axis.{Axis}

-- how many cells there are along each axis, and where they lie on it
pub record Cells : Type 0 where
  pub per_axis : ℕ
  pub axes : List Axis

-- coordinate i of a point
abbrev pub coordinate : (point : List ℤ) (i : ℕ) → ℤ
coordinate point i = slice_index_or point i (pos 0)

-- coordinate i of each vertex
abbrev pub coordinates : (mesh : List (List ℤ)) (i : ℕ) → List ℤ
coordinates mesh i = map (λ (vertex : List ℤ). coordinate vertex i) mesh

-- the least coordinate i of the vertices
abbrev pub least_on : (mesh : List (List ℤ)) (i : ℕ) → ℤ
least_on mesh i = fold int_min (coordinate (slice_index_or mesh 0 []) i) (coordinates mesh i)

-- the greatest
abbrev pub greatest_on : (mesh : List (List ℤ)) (i : ℕ) → ℤ
greatest_on mesh i = fold int_max (coordinate (slice_index_or mesh 0 []) i) (coordinates mesh i)

-- axis i: its cells begin at the least coordinate, and their width is 1 more than the whole part of how far the vertices reach by how many cells there are
abbrev pub axis_on : (mesh : List (List ℤ)) (per_axis i : ℕ) → Axis
axis_on mesh per_axis i =
    record { least = least_on mesh i; width = unsigned_abs (greatest_on mesh i -ℤ least_on mesh i) / per_axis + 1 }

-- the cells of a mesh: as many along each axis as there may be with no more cells than vertices
pub record AreCellsOf (dimensions : ℕ) (mesh : List (List ℤ)) (cells : Cells) : Type 0 where
  pub few : cells.per_axis ^ dimensions ≤ length mesh
  pub most : length mesh < (cells.per_axis + 1) ^ dimensions
  pub axes : cells.axes ≡ map (axis_on mesh cells.per_axis) (range_with_len 0 dimensions)
