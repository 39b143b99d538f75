-- The place of a cell among all cells: its numbers on the axes as digits, the first axis in front. The project's own.
use Rattle.std.specs.Prelude.{ℕ, ◌+◌, ◌*◌, ◌/◌, ◌<◌, ⊤, ℤ, ◌-ℤ◌, ◌≤ℤ◌, unsigned_abs, List, [], ◌∷◌, map}
use Rattle.grid_index.specs.Cells.{Cells}
use Rattle.grid_index.specs.declared.axis.Axis.{Axis}

-- the cell number of a vertex's coordinate on an axis, where it is at least the least one
abbrev pub digit : Axis → ℤ → ℕ
digit axis x = unsigned_abs (x -ℤ axis.least) / axis.width

-- the place of a vertex's cell, whose digits so far are those of a number
abbrev pub place_from : (per_axis : ℕ) → List Axis → (vertex : List ℤ) → ℕ → ℕ
place_from per_axis (axis ∷ axes) (x ∷ vertex) so_far = place_from per_axis axes vertex (so_far * per_axis + digit axis x)
place_from per_axis _ _ so_far = so_far

-- the place of a vertex's cell
abbrev pub place_in : Cells → (vertex : List ℤ) → ℕ
place_in cells vertex = place_from cells.per_axis cells.axes vertex 0

-- the place of each vertex's cell
abbrev pub places_in : Cells → (mesh : List (List ℤ)) → List ℕ
places_in cells mesh = map (place_in cells) mesh

-- the cell numbers of a vertex are digits of a place
abbrev pub HasDigits : (per_axis : ℕ) → List Axis → (vertex : List ℤ) → Type 0
HasDigits per_axis [] [] = ⊤
HasDigits per_axis (axis ∷ axes) (x ∷ vertex) = (0 < axis.width) × (axis.least ≤ℤ x) × (digit axis x < per_axis) × HasDigits per_axis axes vertex
HasDigits per_axis _ _ = ⊥
