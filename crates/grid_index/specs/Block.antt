-- The block of a point: the cells round its own. The project's own.
use Rattle.std.specs.Prelude.{ℕ, ◌/◌, ◌<◌, ◌≤◌, ◌*◌, Bool, true, ◌&&◌, nat_le, ℤ, pos, negsuc, ◌-ℤ◌, unsigned_abs, List, [], ◌∷◌, filter, fold, map, min}
use Rattle.grid_index.specs.Cells.{Cells}
use Rattle.grid_index.specs.declared.axis.Axis.{Axis}

-- a quotient, rounded down
abbrev pub floor_quotient : ℤ → ℕ → ℤ
floor_quotient (pos a) b = pos (a / b)
floor_quotient (negsuc a) b = negsuc (a / b)

-- the number of the cell of coordinate x on an axis; that of a point outside the mesh's box may be of no cell
abbrev pub cell_number : Axis → ℤ → ℤ
cell_number axis x = floor_quotient (x -ℤ axis.least) axis.width

-- whether two cell numbers differ by at most 1
abbrev pub are_beside : ℤ → ℤ → Bool
are_beside m n = nat_le (unsigned_abs (m -ℤ n)) 1

-- whether a vertex is in the block of a point: on every axis their cell numbers differ by at most 1
abbrev pub is_in_block : List Axis → (point vertex : List ℤ) → Bool
is_in_block (axis ∷ axes) (x ∷ point) (y ∷ vertex) =
    are_beside (cell_number axis x) (cell_number axis y) && is_in_block axes point vertex
is_in_block _ _ _ = true

-- the vertices in the block of a point
abbrev pub block_of : Cells → (mesh : List (List ℤ)) (point : List ℤ) → List (List ℤ)
block_of cells mesh point = filter (is_in_block cells.axes point) mesh

-- h, the least width of a cell
abbrev pub least_width : List Axis → ℕ
least_width [] = 0
least_width (axis ∷ axes) = fold (λ (least : ℕ) (other : Axis). min least other.width) axis.width axes
