-- After vertices were set each entry has values for the vertices of its mesh.
use Rattle.std.proofs.Common.{◌≡◌, ◌≢◌, ℕ, ◌+◌, ◌*◌, ◌/◌, Bool, true, false, nat_eq, if◌then◌else◌, List, ◌++◌, map, length, replicate, slice_get, Option, Some, ℤ, pos, refl, ap, sym, subst, ◌∙◌}
use Rattle.std.specs.Option.{option_map_or}
use Rattle.std.proofs.lemmas.Bool.{eqb-true, eq-eqb, false≢true}
use Rattle.std.proofs.lemmas.List.{length-append}
use Rattle.std.proofs.lemmas.List.Elements.{All-map, All-weaker}
use Rattle.mesh_data.specs.AnyMeshes.{dimensions_of, vertices_of}
use Rattle.mesh_data.specs.declared.any_mesh.AnyMesh.{AnyMesh}
use Rattle.mesh_data.specs.declared.any_mesh.AnyMesh.TheVariants.{Two, Three}
use Rattle.participant_tables.specs.AtPlace.{at_place}
use Rattle.participant_tables.specs.Vertices.{points_in, with_points, with_vertices}
use Rattle.participant_tables.specs.WriteKept.{WriteKept}
use Rattle.participant_tables.specs.WriteSteps.{HaveVertices, grown}
use Rattle.participant_tables.proofs.Growing.{grown-vertices}
use Rattle.participant_state.proofs.CallsChunks.{length-chunks}
use Rattle.participant_state.proofs.ListPlaces.{at_this_place, at_other_place}

-- as many vertices more as there are points
vertices_more : (points : List (List ℤ)) (mesh : AnyMesh) → length (vertices_of (with_vertices points mesh)) ≡ length (vertices_of mesh) + length points
vertices_more points (Two mesh) = length-append mesh points
vertices_more points (Three mesh) = length-append mesh points

grown_elsewhere : (place other more n : ℕ) (e : WriteKept) → place ≢ other → (e.mesh ≡ other → length e.values ≡ n * e.components)
    → (grown place more e).mesh ≡ other → length (grown place more e).values ≡ n * (grown place more e).components
grown_elsewhere place other more n e apart has = by (nat_eq e.mesh place) refl
  where
    by : (b : Bool) → nat_eq e.mesh place ≡ b
        → (if b then record e { values = e.values ++ replicate (more * e.components) (pos 0) } else e).mesh ≡ other
        → length (if b then record e { values = e.values ++ replicate (more * e.components) (pos 0) } else e).values
        ≡ n * (if b then record e { values = e.values ++ replicate (more * e.components) (pos 0) } else e).components
    by true same mesh = absurd (apart (sym (eqb-true e.mesh place same) ∙ mesh))
    by false off mesh = has mesh

-- entries on the mesh at another place are as before
elsewhere : (place other more n : ℕ) (writes : List WriteKept) → place ≢ other → HaveVertices other n writes → HaveVertices other n (map (grown place more) writes)
elsewhere place other more n writes apart have =
    All-map (λ (e : WriteKept). e.mesh ≡ other → length e.values ≡ n * e.components) (grown place more) writes
    (All-weaker (λ (e : WriteKept). e.mesh ≡ other → length e.values ≡ n * e.components)
    (λ (e : WriteKept). (grown place more e).mesh ≡ other → length (grown place more e).values ≡ n * (grown place more e).components)
    (λ e has. grown_elsewhere place other more n e apart has) writes have)

module _ (own : List AnyMesh) (writes : List WriteKept)
    (values : (place : ℕ) (mesh : AnyMesh) → slice_get own place ≡ Some mesh → HaveVertices place (length (vertices_of mesh)) writes) where
  pub values_kept : (place : ℕ) (mesh : AnyMesh) (coordinates : List ℤ) (more : ℕ) → slice_get own place ≡ Some mesh
      → more ≡ length coordinates / dimensions_of mesh
      → (other : ℕ) (new : AnyMesh) → slice_get (at_place (with_points coordinates) place own) other ≡ Some new
      → HaveVertices other (length (vertices_of new)) (map (grown place more) writes)
  values_kept place mesh coordinates more at many other new is = by (nat_eq place other) refl
    where
      by : (b : Bool) → nat_eq place other ≡ b → HaveVertices other (length (vertices_of new)) (map (grown place more) writes)
      by true same =
          let here : place ≡ other = eqb-true place other same in
          let found : Some (with_points coordinates mesh) ≡ Some new =
          sym (at_this_place (with_points coordinates) own place mesh at) ∙ ap (slice_get (at_place (with_points coordinates) place own)) here ∙ is in
          let count : length (vertices_of mesh) + more ≡ length (vertices_of new) =
          ap (λ (n : ℕ). length (vertices_of mesh) + n)
          (many ∙ sym (length-chunks (dimensions_of mesh) (length coordinates / dimensions_of mesh) coordinates))
          ∙ sym (vertices_more (points_in (dimensions_of mesh) coordinates) mesh)
          ∙ ap (λ (o : Option AnyMesh). option_map_or (λ m. length (vertices_of m)) o 0) found in
          let P : ℕ → ℕ → Type 0 = λ n k. HaveVertices k n (map (grown place more) writes) in
          subst (λ k. P (length (vertices_of new)) k) here (subst (λ n. P n place) count
          (grown-vertices place (length (vertices_of mesh)) more writes (values place mesh at)))
      by false off =
          elsewhere place other more (length (vertices_of new)) writes (λ same. false≢true (sym off ∙ eq-eqb place other same))
          (values other new (sym (at_other_place (with_points coordinates) own place other (λ same. false≢true (sym off ∙ eq-eqb place other same))) ∙ is))
