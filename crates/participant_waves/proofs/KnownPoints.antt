-- The points of a mesh that a participant provides, or receives, are those of the mesh that stands at its place.
use Rattle.std.proofs.Common.{◌≡◌, inl, inr, ℕ, ◌+◌, ◌<◌, true, nat_eq, List, [], ◌∷◌, length, zip, slice_get, Option, Some, None, is_some, position, Contains, refl, ap, sym, subst, ◌∙◌, arith, zero, suc, unwrap_or}
use Rattle.std.specs.Prelude.{option_map, option_and_then}
use Rattle.std.specs.Option.{option_map_or}
use Rattle.std.proofs.lemmas.Bool.{eq-eqb, false≢true}
use Rattle.std.proofs.lemmas.Option.{slice_get-map, same_Some}
use Rattle.cpl_plan.specs.PlanWords.{passes, is_among}
use Rattle.cpl_plan.specs.ValidPlan.{IsValidPlan}
use Rattle.cpl_plan.specs.declared.parts.PlanParts.{PlanParts}
use Rattle.cpl_plan.specs.declared.parts.Part.{Part}
use Rattle.cpl_plan.specs.declared.parts.MeshPlan.{MeshPlan}
use Rattle.cpl_plan.proofs.Readings.{passes_at, among_in}
use Rattle.cpl_plan.proofs.Owners.{owner_alone}
use Rattle.mesh_data.specs.AnyMeshes.{vertices_of}
use Rattle.mesh_data.specs.declared.any_mesh.AnyMesh.{AnyMesh}
use Rattle.wave_coupling.specs.Known.{own_mesh, points_of, provided_by, received_mesh, received_meshes}
use Rattle.participant_words.specs.KnownByReply.{known_by, owners_meshes, place_at_owner}
use Rattle.participant_waves.specs.KnownMeshes.{HasMeshes, IsMeshOf, IsKnownTo}
use Rattle.participant_waves.proofs.PlacesFound.{found_there, place_there, at_its_place, got_replicate}

got_zip : {X Y : Type 0} (xs : List X) (ys : List Y) (i : ℕ) (x : X) (y : Y) → slice_get xs i ≡ Some x → slice_get ys i ≡ Some y → slice_get (zip xs ys) i ≡ Some (x, y)
got_zip [] ys i x y one other = cc
got_zip (z ∷ xs) [] i x y one other = cc
got_zip (z ∷ xs) (v ∷ ys) zero x y one other = let first : z ≡ x = cc in let second : v ≡ y = cc in λ i. Some (first i, second i)
got_zip (z ∷ xs) (v ∷ ys) (suc i) x y one other = got_zip xs ys i x y one other

module _ (plan : PlanParts) (part : ℕ) (p : Part) (at : slice_get plan.parts part ≡ Some p) where
  -- a mesh that the participant provides, or receives, has a place
  pub place_of : (field : Part → List ℕ) (mesh : ℕ) → passes plan.parts part (λ q. is_among mesh (field q)) ≡ true → is_some (position (nat_eq mesh) (field p)) ≡ true
  place_of field mesh is =
      let found = passes_at plan.parts part (λ q. is_among mesh (field q)) is in
      let same : found.0 ≡ p = same_Some found.0 p (sym found.1 ∙ at) in
      found_there (nat_eq mesh) (field p) mesh
      (among_in mesh (field p) (subst (λ (q : Part). is_among mesh (field q) ≡ true) same found.2)) (eq-eqb mesh mesh refl)

  pub received_place : (mesh : ℕ) → IsKnownTo plan part mesh → position (nat_eq mesh) p.provides ≡ None → is_some (position (nat_eq mesh) p.receives) ≡ true
  received_place mesh (inl own) none = absurd (false≢true (sym (ap is_some none) ∙ place_of (λ q. q.provides) mesh own))
  received_place mesh (inr got) none = place_of (λ q. q.receives) mesh got

  module _ (own received : List AnyMesh) (has : HasMeshes plan part own received) (mesh : ℕ) where
    provides_is : provided_by plan part part ≡ p.provides
    provides_is = ap (λ (o : Option Part). option_map_or (λ q. q.provides) o []) at

    receives_is : received_meshes plan part ≡ p.receives
    receives_is = ap (λ (o : Option Part). option_map_or (λ q. q.receives) o []) at

    -- one of its own
    module _ (i : ℕ) (is : position (nat_eq mesh) p.provides ≡ Some i) where
      pub own_within : i < length own
      own_within = omega (arith, has.provided.many, ap length provides_is, (at_its_place p.provides mesh i is).0)

      pub own_points : (g : AnyMesh) → slice_get own i ≡ Some g → points_of plan part (known_by plan part own received) mesh ≡ vertices_of g
      own_points g got =
          ap (λ (o : Option AnyMesh). option_map_or vertices_of o (option_map_or vertices_of (received_mesh plan part (known_by plan part own received) mesh) []))
          (ap (λ (ns : List ℕ). option_and_then (slice_get own) (position (nat_eq mesh) ns)) provides_is ∙ ap (option_and_then (slice_get own)) is ∙ got)

      pub own_of_plan : (g : AnyMesh) → slice_get own i ≡ Some g → IsMeshOf plan mesh g
      own_of_plan g got = has.provided.each i mesh g (ap (λ (ns : List ℕ). slice_get ns i) provides_is ∙ (at_its_place p.provides mesh i is).1) got

    -- one that it receives
    module _ (none : position (nat_eq mesh) p.provides ≡ None) (j : ℕ) (is : position (nat_eq mesh) p.receives ≡ Some j) where
      pub received_within : j < length received
      received_within = omega (arith, has.got.many, ap length receives_is, (at_its_place p.receives mesh j is).0)

      pub received_of_plan : (g : AnyMesh) → slice_get received j ≡ Some g → IsMeshOf plan mesh g
      received_of_plan g got = has.got.each j mesh g (ap (λ (ns : List ℕ). slice_get ns j) receives_is ∙ (at_its_place p.receives mesh j is).1) got

      -- it stands at its place among its owner's
      module _ (valid : IsValidPlan plan) (g : AnyMesh) (got : slice_get received j ≡ Some g) where
        of_mesh : (m : MeshPlan) × (slice_get plan.meshes mesh ≡ Some m)
        of_mesh = by (slice_get plan.meshes mesh) (received_of_plan g got).dimensions
          where
            by : {n : ℕ} (o : Option MeshPlan) → option_map (λ m. m.dimensions) o ≡ Some n → (m : MeshPlan) × (o ≡ Some m)
            by None none = cc
            by (Some m) some = (m, refl)

        owner_place : (q : ℕ) × (position (nat_eq mesh) (provided_by plan part of_mesh.0.owner) ≡ Some q)
        owner_place =
            let own = (owner_alone plan valid mesh of_mesh.0 of_mesh.1 of_mesh.0.owner).1 refl in
            let found = passes_at plan.parts of_mesh.0.owner (λ q. is_among mesh q.provides) own in
            let provided : provided_by plan part of_mesh.0.owner ≡ found.0.provides = ap (λ (o : Option Part). option_map_or (λ q. q.provides) o []) found.1 in
            place_there (position (nat_eq mesh) (provided_by plan part of_mesh.0.owner))
            (found_there (nat_eq mesh) (provided_by plan part of_mesh.0.owner) mesh
            (subst (λ (ns : List ℕ). Contains ns mesh) (sym provided) (among_in mesh found.0.provides found.2)) (eq-eqb mesh mesh refl))

        place_is : place_at_owner plan part mesh ≡ owner_place.0
        place_is =
            ap (λ (o : Option MeshPlan). unwrap_or (option_and_then (λ (m : MeshPlan). position (nat_eq mesh) (provided_by plan part m.owner)) o) 0) of_mesh.1
            ∙ ap (λ (o : Option ℕ). unwrap_or o 0) owner_place.1

        got_known : option_and_then (slice_get (known_by plan part own received).received) (position (nat_eq mesh) (received_meshes plan part)) ≡ Some (owners_meshes plan part mesh g)
        got_known =
            ap (λ (ns : List ℕ). option_and_then (slice_get (known_by plan part own received).received) (position (nat_eq mesh) ns)) receives_is
            ∙ ap (option_and_then (slice_get (known_by plan part own received).received)) is
            ∙ slice_get-map (λ (at : ℕ × AnyMesh). owners_meshes plan part at.0 at.1) (zip (received_meshes plan part) received) j
            ∙ ap (option_map (λ (at : ℕ × AnyMesh). owners_meshes plan part at.0 at.1))
            (got_zip (received_meshes plan part) received j mesh g (ap (λ (ns : List ℕ). slice_get ns j) receives_is ∙ (at_its_place p.receives mesh j is).1) got)

        received_is : received_mesh plan part (known_by plan part own received) mesh ≡ Some g
        received_is =
            ap (λ (o : Option MeshPlan). option_and_then (λ (m : MeshPlan). option_and_then (λ (all : List AnyMesh). option_and_then (slice_get all) (position (nat_eq mesh) (provided_by plan part m.owner)))
            (option_and_then (slice_get (known_by plan part own received).received) (position (nat_eq mesh) (received_meshes plan part)))) o) of_mesh.1
            ∙ ap (option_and_then (λ (all : List AnyMesh). option_and_then (slice_get all) (position (nat_eq mesh) (provided_by plan part of_mesh.0.owner)))) got_known
            ∙ ap (option_and_then (slice_get (owners_meshes plan part mesh g))) owner_place.1
            ∙ got_replicate (place_at_owner plan part mesh + 1) owner_place.0 g (omega (arith, place_is))

        not_own : own_mesh plan part (known_by plan part own received) mesh ≡ None
        not_own = ap (λ (ns : List ℕ). option_and_then (slice_get own) (position (nat_eq mesh) ns)) provides_is ∙ ap (option_and_then (slice_get own)) none

        pub received_points : points_of plan part (known_by plan part own received) mesh ≡ vertices_of g
        received_points =
            ap (λ (o : Option AnyMesh). option_map_or vertices_of o (option_map_or vertices_of (received_mesh plan part (known_by plan part own received) mesh) [])) not_own
            ∙ ap (λ (o : Option AnyMesh). option_map_or vertices_of o []) received_is
