-- How far a point is from a point of an edge. The coupling documentation has the projection onto edges; weights in whole millionths are the project's own.
use Rattle.std.specs.Prelude.{ℕ, ◌^◌, ℤ, pos, ◌-ℤ◌, ◌*ℤ◌, List, length, sum_by, slice_index_or}
use Rattle.std.specs.List.{range_with_len}
use Rattle.fixed_num.specs.Norm.{square}

-- coordinate p less the coordinate m millionths of the way from a to b, times a million
abbrev pub offset : (m : ℕ) → (p a b : ℤ) → ℤ
offset m p a b = pos (10 ^ 6) *ℤ (p -ℤ a) -ℤ pos m *ℤ (b -ℤ a)

-- coordinate i of a point
abbrev pub coordinate : List ℤ → ℕ → ℤ
coordinate point i = slice_index_or point i (pos 0)

-- the square distance from p to the point m millionths of the way from a to b, in square millionths of a unit
unfoldable pub square_off : (m : ℕ) → (p a b : List ℤ) → ℕ
square_off m p a b =
    sum_by (λ i. square (offset m (coordinate p i) (coordinate a i) (coordinate b i))) (range_with_len 0 (length p))
