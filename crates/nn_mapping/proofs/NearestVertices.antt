-- The nearest vertex as a function, and the mapping between two meshes as one.
use Rattle.std.proofs.Common.{◌≡◌, ℕ, zero, suc, ◌<◌, ◌≤◌, Bool, true, false, cond, leb, List, [], ◌∷◌, ℤ, length, get_or, map, refl, sym, subst, ap, ◌∙◌, inl, inr, arith}
use Rattle.std.specs.Bool.{MatchBool}
use Rattle.std.specs.List.{list_all}
use Rattle.std.proofs.lemmas.Bool.{le-leb, leb-true, cases_lt}
use Rattle.std.proofs.lemmas.List.{same_lists, get_or-map, get_or_default, length-map}
use Rattle.std.proofs.lemmas.List.Sums.{position_or_len_is, AllPass-from_list_all, list_all-from_AllPass}
use Rattle.fixed_num.specs.Norm.{square_distance}
use Rattle.mesh_data.specs.Nearest.{IsNearest, AreNearest, distance_to, nearest_vertex}
use Rattle.nn_mapping.specs.Mapping.{Mapping, IsMappingOf, mapping_of}

not_true : (b : Bool) → (b ≡ true → ⊥) → b ≡ false
not_true true h = absurd (h refl)
not_true false h = refl

-- only one vertex is the nearest
pub only_nearest : (mesh : List (List ℤ)) (point : List ℤ) (u v : ℕ) → IsNearest mesh point u → IsNearest mesh point v → u ≡ v
only_nearest mesh point u v at_u at_v =
    elim (cases_lt u v) [
      | inl before ↦ absurd (omega (arith, at_v.first u before, at_u.none_nearer v at_v.vertex))
      | inr after ↦ elim (cases_lt v u) [
        | inl behind ↦ absurd (omega (arith, at_u.first v behind, at_v.none_nearer u at_u.vertex))
        | inr same ↦ omega arith
      ]
    ]

-- the function gives it
pub nearest_vertex-is : (mesh : List (List ℤ)) (point : List ℤ) (v : ℕ) → IsNearest mesh point v → nearest_vertex mesh point ≡ v
unfolding nearest_vertex
nearest_vertex-is mesh point v near =
    position_or_len_is (λ (w : List ℤ). list_all (λ (u : List ℤ). leb (square_distance point w) (square_distance point u)) mesh) mesh v [] (omega (arith, near.vertex))
    (λ k before. not_true (list_all (λ (u : List ℤ). leb (distance_to mesh point k) (square_distance point u)) mesh)
    (λ all.
    let near_k = leb-true (distance_to mesh point k) (distance_to mesh point v) (AllPass-from_list_all (λ (u : List ℤ). leb (distance_to mesh point k) (square_distance point u)) mesh all v [] near.vertex) in
    absurd (omega (arith, near_k, near.first k before))))
    (λ _. list_all-from_AllPass (λ (u : List ℤ). leb (distance_to mesh point v) (square_distance point u)) mesh
    (λ k d inside. rw (get_or_default mesh k d [] inside) (le-leb (distance_to mesh point v) (distance_to mesh point k) (near.none_nearer k inside))))

-- the list of the nearest vertices
nearest-map : (mesh points : List (List ℤ)) (nearest : List ℕ) → AreNearest mesh points nearest → nearest ≡ map (nearest_vertex mesh) points
nearest-map mesh points nearest are =
    same_lists nearest (map (nearest_vertex mesh) points) (are.one_for_each ∙ sym (length-map points (nearest_vertex mesh)))
    (λ k d inside.
    let within : k < length points = omega (arith, are.one_for_each, inside) in
    get_or_default nearest k d 0 inside
    ∙ sym (nearest_vertex-is mesh (get_or points k []) (get_or nearest k 0) (are.each k within))
    ∙ sym (get_or-map (nearest_vertex mesh) points k [] d within))

lists : (from to : List (List ℤ)) (conservative : Bool) (nearest : List ℕ) → MatchBool conservative (AreNearest to from nearest) (AreNearest from to nearest)
    → nearest ≡ cond conservative (map (nearest_vertex to) from) (map (nearest_vertex from) to)
lists from to true nearest are = nearest-map to from nearest are
lists from to false nearest are = nearest-map from to nearest are

-- there is one mapping between two meshes
pub mapping_of-is : (from to : List (List ℤ)) (conservative : Bool) (m : Mapping) → IsMappingOf from to conservative m → m ≡ mapping_of from to conservative
mapping_of-is from to conservative m is =
    let with : Bool → ℕ → ℕ → List ℕ → Mapping = λ kind sources targets nearest. record { conservative = kind; sources = sources; targets = targets; nearest = nearest } in
    ap (λ (b : Bool). with b m.sources m.targets m.nearest) is.kind
    ∙ ap (λ (n : ℕ). with conservative n m.targets m.nearest) is.sources
    ∙ ap (λ (n : ℕ). with conservative (length from) n m.nearest) is.targets
    ∙ ap (with conservative (length from) (length to)) (lists from to conservative m.nearest is.nearest)

-- the nearest among the first n vertices
record IsNearestOf (mesh : List (List ℤ)) (point : List ℤ) (n v : ℕ) : Type 0 where
  among : v < n
  none_nearer : (u : ℕ) → u < n → distance_to mesh point v ≤ distance_to mesh point u
  first : (u : ℕ) → u < v → distance_to mesh point v < distance_to mesh point u

-- there is one
one_of : (mesh : List (List ℤ)) (point : List ℤ) (n : ℕ) → (v : ℕ) × IsNearestOf mesh point (suc n) v
one_of mesh point zero = (
  0,
  record {
    among = omega arith;
    none_nearer = λ u before. let same : u ≡ 0 = omega arith in rw same (omega arith);
    first = λ u before. absurd (omega arith);
  },
)
one_of mesh point (suc n) =
    let (v, near) = one_of mesh point n in
    elim (cases_lt (distance_to mesh point (suc n)) (distance_to mesh point v)) [
      | inl nearer ↦ (
        suc n,
        record {
          among = omega arith;
          none_nearer = λ u before. elim (cases_lt u (suc n)) [
            | inl earlier ↦ omega (arith, nearer, near.none_nearer u earlier)
            | inr last ↦ let same : u ≡ suc n = omega arith in rw same (omega arith)
          ];
          first = λ u before. omega (arith, nearer, near.none_nearer u before);
        },
      )
      | inr no_nearer ↦ (
        v,
        record {
          among = omega (arith, near.among);
          none_nearer = λ u before. elim (cases_lt u (suc n)) [
            | inl earlier ↦ near.none_nearer u earlier
            | inr last ↦ let same : u ≡ suc n = omega arith in rw same no_nearer
          ];
          first = near.first;
        },
      )
    ]

-- a mesh with a vertex has a nearest one
pub nearest_vertex-IsNearest : (mesh : List (List ℤ)) (point : List ℤ) → 0 < length mesh → IsNearest mesh point (nearest_vertex mesh point)
nearest_vertex-IsNearest [] point some = absurd (omega (arith, some))
nearest_vertex-IsNearest (p ∷ mesh) point some =
    let found = one_of (p ∷ mesh) point (length mesh) in
    let near : IsNearest (p ∷ mesh) point found.0 = record { vertex = found.1.among; none_nearer = found.1.none_nearer; first = found.1.first } in
    subst (IsNearest (p ∷ mesh) point) (sym (nearest_vertex-is (p ∷ mesh) point found.0 near)) near
