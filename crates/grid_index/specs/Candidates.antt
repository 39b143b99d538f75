-- The nearest vertex so far, in the order of nearness. The project's own.
use Rattle.std.specs.Prelude.{◌≡◌, ℕ, ◌+◌, ◌*◌, ◌^◌, ◌<◌, ◌≤◌, ℤ, List, Option, None, Some, length, ⊤}
use Rattle.mesh_data.specs.Nearest.{distance_to}
use Rattle.grid_index.specs.declared.candidate.Candidate.{Candidate}

-- a number by which vertices are ranked: by distance, then by number, which is below 2^32
abbrev pub rank : (distance vertex : ℕ) → ℕ
rank distance vertex = distance * 2 ^ 32 + vertex

-- a candidate is there, and its rank is at most this
abbrev pub IsWithin : Option Candidate → ℕ → Type 0
IsWithin None most = ⊥
IsWithin (Some c) most = rank c.distance c.vertex ≤ most

-- a candidate is there that is vertex u or goes before it
abbrev pub GoesBefore : (mesh : List (List ℤ)) (point : List ℤ) → Option Candidate → (u : ℕ) → Type 0
GoesBefore mesh point best u = IsWithin best (rank (distance_to mesh point u) u)

-- if a candidate is there, it is a vertex with its distance
abbrev pub IsFound : (mesh : List (List ℤ)) (point : List ℤ) → Option Candidate → Type 0
IsFound mesh point None = ⊤
IsFound mesh point (Some c) = (c.vertex < length mesh) × (c.distance ≡ distance_to mesh point c.vertex)

-- what went before a vertex goes before it still
pub record Improves (mesh : List (List ℤ)) (point : List ℤ) (old new : Option Candidate) : Type 0 where
  pub found : IsFound mesh point new
  pub kept : (u : ℕ) → GoesBefore mesh point old u → GoesBefore mesh point new u

-- a candidate is there, and no further away than the reach
abbrev pub IsWithinReach : Option Candidate → (reach : ℕ) → Type 0
IsWithinReach None reach = ⊥
IsWithinReach (Some c) reach = c.distance ≤ reach * reach
