-- Pairs of numbers in order: an edge and a weight, or a vertex and a component. The project's own.
use Rattle.std.specs.Prelude.{◌≡◌, ◌⊎◌, ℕ, ◌<◌, List, map}
use Rattle.std.specs.List.{range_with_len, flat_map}

-- all pairs of a row and a column, row by row
abbrev pub places : (rows columns : ℕ) → List (ℕ × ℕ)
places rows columns = flat_map (λ v. map (λ c. (v, c)) (range_with_len 0 columns)) (range_with_len 0 rows)

-- (w, d) comes before (v, c): rows in order, and in each its columns
abbrev pub ComesBefore : (w d v c : ℕ) → Type 0
ComesBefore w d v c = (w < v) ⊎ ((w ≡ v) × (d < c))
