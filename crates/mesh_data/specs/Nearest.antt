-- The nearest vertex of a mesh to a point. The coupling documentation has the nearest neighbour; that the first of equally near vertices is taken is the project's own.
use Rattle.std.specs.Prelude.{◌≡◌, ℕ, ◌<◌, ◌≤◌, ℤ, List, [], length, slice_index, slice_index_or, nat_le}
use Rattle.std.specs.List.{list_all, position_or_len}
use Rattle.fixed_num.specs.Norm.{square_distance}

-- the square of the distance from a point to vertex v of a mesh
abbrev pub distance_to : (mesh : List (List ℤ)) (point : List ℤ) (v : ℕ) → ℕ
distance_to mesh point v = square_distance point (slice_index_or mesh v [])

-- v is the nearest vertex of a mesh to a point: no vertex is nearer, and none before it is as near
pub record IsNearest (mesh : List (List ℤ)) (point : List ℤ) (v : ℕ) : Type 0 where
  pub vertex : v < length mesh
  pub none_nearer : (u : ℕ) → u < length mesh → distance_to mesh point v ≤ distance_to mesh point u
  pub first : (u : ℕ) → u < v → distance_to mesh point v < distance_to mesh point u

-- the same as a function: the first vertex that is as near as every vertex
unfoldable pub nearest_vertex : (mesh : List (List ℤ)) (point : List ℤ) → ℕ
nearest_vertex mesh point =
    position_or_len (λ (v : List ℤ). list_all (λ (u : List ℤ). nat_le (square_distance point v) (square_distance point u)) mesh) mesh

-- each point has its nearest vertex of a mesh in the list
pub record AreNearest (mesh points : List (List ℤ)) (nearest : List ℕ) : Type 0 where
  pub one_for_each : length nearest ≡ length points
  pub each : (i : ℕ) → i < length points → IsNearest mesh (slice_index_or points i []) (slice_index nearest i)
