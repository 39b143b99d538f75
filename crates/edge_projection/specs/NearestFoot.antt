-- The foot of a point on the edges of a mesh. The coupling documentation has the nearest projection; whole weights and the order among equally near ones are the project's own.
use Rattle.std.specs.Prelude.{◌≡◌, ℕ, ◌+◌, ◌-◌, ◌*◌, ◌^◌, ◌<◌, ◌≤◌, ℤ, List, [], length, slice_index_or, nat_le}
use Rattle.std.specs.List.{list_all, position_or_len}
use Rattle.edge_projection.specs.declared.edge.Edge.{Edge}
use Rattle.edge_projection.specs.declared.edge.Foot.{Foot}
use Rattle.edge_projection.specs.Places.{places, ComesBefore}
use Rattle.edge_projection.specs.Offsets.{square_off}

-- both ends are among so many vertices
abbrev pub IsEdgeOf : (vertices : ℕ) → Edge → Type 0
IsEdgeOf vertices edge = (edge.a < vertices) × (edge.b < vertices)

-- the candidates by number: the edges, and then each vertex as an edge from itself to itself
abbrev pub candidate_of : List Edge → ℕ → Edge
candidate_of edges n = slice_index_or edges n (record { a = n - length edges; b = n - length edges })

-- how many there are
abbrev pub candidate_count : (mesh : List (List ℤ)) (edges : List Edge) → ℕ
candidate_count mesh edges = length edges + length mesh

-- how many weights are tried on each: every whole millionth of the way
abbrev pub weight_count : ℕ
weight_count = 10 ^ 6 + 1

-- the square distance from a point to the point with weight m on candidate n
abbrev pub square_at : (mesh : List (List ℤ)) (edges : List Edge) (point : List ℤ) (n m : ℕ) → ℕ
square_at mesh edges point n m =
    square_off m point (slice_index_or mesh (candidate_of edges n).a []) (slice_index_or mesh (candidate_of edges n).b [])

-- (n, m) is the pair with the least triple (square, n, m): none has a lesser square, and none before it has as little
pub record IsFirstLeast (numbers weights : ℕ) (square : ℕ → ℕ → ℕ) (n m : ℕ) : Type 0 where
  pub number : n < numbers
  pub weight : m < weights
  pub least : (k j : ℕ) → k < numbers → j < weights → square n m ≤ square k j
  pub first : (k j : ℕ) → k < numbers → j < weights → ComesBefore k j n m → square n m < square k j

-- the same as a function, which tries every pair: the first whose square is at most that of each
unfoldable pub first_least : (numbers weights : ℕ) (square : ℕ → ℕ → ℕ) → ℕ × ℕ
first_least numbers weights square =
    let tried = places numbers weights in
    slice_index_or tried
    (position_or_len (λ (t : ℕ × ℕ). list_all (λ (u : ℕ × ℕ). nat_le (square t.0 t.1) (square u.0 u.1)) tried) tried) (0, 0)

-- the point with weight m on candidate n, as a foot
abbrev pub foot_at : (mesh : List (List ℤ)) (edges : List Edge) (point : List ℤ) (n m : ℕ) → Foot
foot_at mesh edges point n m =
    record {
      number = n;
      a = (candidate_of edges n).a;
      b = (candidate_of edges n).b;
      weight = m;
      square = square_at mesh edges point n m;
    }

-- the foot on candidate n: its weight is the first with the least square
pub record IsFootOn (mesh : List (List ℤ)) (edges : List Edge) (point : List ℤ) (n : ℕ) (foot : Foot) : Type 0 where
  pub is : foot ≡ foot_at mesh edges point n foot.weight
  pub weight : foot.weight < weight_count
  pub least : (j : ℕ) → j < weight_count → square_at mesh edges point n foot.weight ≤ square_at mesh edges point n j
  pub first : (j : ℕ) → j < foot.weight → square_at mesh edges point n foot.weight < square_at mesh edges point n j

-- the foot among the first candidates, so many: its pair is the first with the least square
pub record IsFootAmong (numbers : ℕ) (mesh : List (List ℤ)) (edges : List Edge) (point : List ℤ) (foot : Foot) : Type 0 where
  pub is : foot ≡ foot_at mesh edges point foot.number foot.weight
  pub least : IsFirstLeast numbers weight_count (square_at mesh edges point) foot.number foot.weight

-- the foot of a point: among all candidates
abbrev pub IsFoot : (mesh : List (List ℤ)) (edges : List Edge) (point : List ℤ) → Foot → Type 0
IsFoot mesh edges = IsFootAmong (candidate_count mesh edges) mesh edges

-- the same as a function
unfoldable pub nearest_foot : (mesh : List (List ℤ)) (edges : List Edge) (point : List ℤ) → Foot
nearest_foot mesh edges point =
    let pair = first_least (candidate_count mesh edges) weight_count (square_at mesh edges point) in
    foot_at mesh edges point pair.0 pair.1

-- m is the first weight whose point on the edge from a to b is nearest to p
pub record IsLeastWeight (p a b : List ℤ) (m : ℕ) : Type 0 where
  pub weight : m ≤ 10 ^ 6
  pub least : (j : ℕ) → j ≤ 10 ^ 6 → square_off m p a b ≤ square_off j p a b
  pub first : (j : ℕ) → j < m → square_off m p a b < square_off j p a b

-- a foot on a mesh of so many vertices
pub record IsFootIn (vertices : ℕ) (foot : Foot) : Type 0 where
  pub a : foot.a < vertices
  pub b : foot.b < vertices
  pub weight : foot.weight ≤ 10 ^ 6

-- a foot whose ends have a row each, of so many values, among all of them
pub record HasRows (row count : ℕ) (foot : Foot) : Type 0 where
  pub a : foot.a * row + row ≤ count
  pub b : foot.b * row + row ≤ count
  pub weight : foot.weight ≤ 10 ^ 6
