-- Points that stand evenly on a line from one to another, both included. The project's own: the coupling documentation leaves the points of a mesh to its solver.
use Rattle.std.specs.Prelude.{ℕ, ◌-◌, nat_lt, if◌then◌else◌, List, map, ℤ, pos, ◌+ℤ◌, ◌-ℤ◌, ◌*ℤ◌}
use Rattle.std.specs.List.{range_with_len, zip}
use Rattle.fixed_num.specs.Numbers.{quotient}

-- a coordinate after so many of equal spans from one coordinate to another, rounded
abbrev pub coordinate_after : (over spans : ℕ) (from to : ℤ) → ℤ
coordinate_after over spans from to = from +ℤ quotient ((to -ℤ from) *ℤ pos over) spans

-- a coordinate of the vertex with this number, from 0, of so many; of one alone it is the first coordinate
abbrev pub line_coordinate : (count vertex : ℕ) (from to : ℤ) → ℤ
line_coordinate count vertex from to = if nat_lt 1 count then coordinate_after vertex (count - 1) from to else from

-- the point of this vertex
abbrev pub line_point : (count vertex : ℕ) (from to : List ℤ) → List ℤ
line_point count vertex from to = map (λ ends. line_coordinate count vertex ends.0 ends.1) (zip from to)

-- the points of all vertices, in order
abbrev pub line_points : (count : ℕ) (from to : List ℤ) → List (List ℤ)
line_points count from to = map (λ vertex. line_point count vertex from to) (range_with_len 0 count)
