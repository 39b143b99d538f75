-- From ranks to the nearest vertex.
use Rattle.std.proofs.Common.{◌≡◌, ℕ, ◌+◌, ◌*◌, ◌^◌, ◌<◌, ◌≤◌, ◌⊎◌, Option, None, Some, List, ℤ, length, inl, inr, arith, subst, sym}
use Rattle.mesh_data.specs.Nearest.{IsNearest, distance_to}
use Rattle.grid_index.specs.Candidates.{rank, IsWithin, IsFound, GoesBefore, Improves}
use Rattle.grid_index.specs.declared.candidate.Candidate.{Candidate}

-- what goes before every vertex is the nearest
pub is_nearest : (mesh : List (List ℤ)) (point : List ℤ) (c : Candidate) → length mesh ≤ 10 ^ 4 → IsFound mesh point (Some c)
    → ((u : ℕ) → u < length mesh → GoesBefore mesh point (Some c) u) → IsNearest mesh point c.vertex
is_nearest mesh point c few found all =
    let distance = found.1 in
    let vertex = found.0 in
    record {
      vertex = found.0;
      none_nearer = λ u inside. omega (arith, distance, vertex, all u inside);
      first = λ u before. omega (arith, distance, vertex, all u (omega (arith, vertex)));
    }

-- what is further away is behind
pub before_far : (mesh : List (List ℤ)) (point : List ℤ) (c : Candidate) (u : ℕ) → c.vertex < 2 ^ 32 → c.distance < distance_to mesh point u → GoesBefore mesh point (Some c) u
before_far mesh point c u small far = omega (arith, small, far)

-- what goes before a vertex is at least as near
pub near_before : (mesh : List (List ℤ)) (point : List ℤ) (c : Candidate) (u : ℕ) → u < 2 ^ 32 → GoesBefore mesh point (Some c) u → c.distance ≤ distance_to mesh point u
near_before mesh point c u small before = omega (arith, small, before)

pub improves-none : (mesh : List (List ℤ)) (point : List ℤ) (best : Option Candidate) → IsFound mesh point best → Improves mesh point best best
improves-none mesh point best found = record { found = found; kept = λ u before. before }

pub improves-then : (mesh : List (List ℤ)) (point : List ℤ) (a b c : Option Candidate) → Improves mesh point a b → Improves mesh point b c → Improves mesh point a c
improves-then mesh point a b c first second = record { found = second.found; kept = λ u before. second.kept u (first.kept u before) }

-- one of two candidates, each a vertex with its distance
pub found-one : (mesh : List (List ℤ)) (point : List ℤ) (best result : Option Candidate) (distance vertex : ℕ)
    → (result ≡ best) ⊎ (result ≡ Some (record { distance = distance; vertex = vertex }))
    → IsFound mesh point best → vertex < length mesh → distance ≡ distance_to mesh point vertex → IsFound mesh point result
found-one mesh point best result distance vertex one found inside is =
    elim one [
      | inl same ↦ subst (IsFound mesh point) (sym same) found
      | inr new ↦ subst (IsFound mesh point) (sym new) (inside, is)
    ]
