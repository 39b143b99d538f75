-- A participant posts and reads the same by all that is known of meshes and by what the reply gives.
use Rattle.std.proofs.Common.{◌≡◌, ℕ, zero, suc, ◌+◌, ◌*◌, ◌<◌, ◌&&◌, nat_eq, if◌then◌else◌, List, [], ◌∷◌, length, take, drop, map, replicate, position, slice_get, unwrap_or, Option, Some, None, Result, Ok, ℤ, refl, ap, sym, ◌∙◌, arith}
use Rattle.std.specs.Prelude.{option_and_then, zip, get_or}
use Rattle.std.specs.Option.{option_map_or}
use Rattle.std.proofs.lemmas.Bool.{eqb-true}
use Rattle.std.proofs.lemmas.List.Quantifiers.{position-Some}
use Rattle.std.proofs.lemmas.Option.{slice_get-get_or, slice_get-map, slice_get_within}
use Rattle.cpl_plan.specs.PlanWords.{components_on, components_of}
use Rattle.cpl_plan.specs.declared.parts.PlanParts.{PlanParts}
use Rattle.cpl_plan.specs.declared.parts.PlanEntry.{PlanEntry}
use Rattle.cpl_plan.specs.declared.parts.MeshPlan.{MeshPlan}
use Rattle.cpl_plan.specs.declared.parts.Exchange.{Exchange}
use Rattle.cpl_plan.specs.declared.words.Fault.{Fault}
use Rattle.waveform.specs.declared.sample.Sample.{Sample}
use Rattle.mesh_data.specs.AnyMeshes.{vertices_of}
use Rattle.mesh_data.specs.declared.any_mesh.AnyMesh.{AnyMesh}
use Rattle.mesh_data.specs.declared.any_mesh.AnyMesh.TheVariants.{Two}
use Rattle.wave_coupling.specs.Posts.{Wave, sent, received}
use Rattle.wave_coupling.specs.InputWave.{InputWave}
use Rattle.wave_coupling.specs.Noted.{Written}
use Rattle.wave_coupling.specs.Mapped.{Points, mapped_wave, all_or_first}
use Rattle.wave_coupling.specs.Known.{Known, provided_by, received_meshes, received_mesh, own_mesh, points_of, width_of, map_at, write_mesh, read_mesh, write_entries}
use Rattle.wave_coupling.specs.PostedWaves.{values_at, sample_of, posted_samples, write_fault, written_wave, post_of, zeros, initial_wave, initial_post}
use Rattle.wave_coupling.specs.MappedInputs.{with_wave, read_wave, mapped_inputs}
use Rattle.participant_words.specs.KnownByReply.{place_at_owner, owners_meshes, known_by, IsToldBy}

zip_at : {X Y : Type 0} (xs : List X) (ys : List Y) (i : ℕ) (x : X) (y : Y) → slice_get xs i ≡ Some x → slice_get ys i ≡ Some y
    → slice_get (zip xs ys) i ≡ Some (x, y)
zip_at [] ys i x y is_x is_y = cc
zip_at (a ∷ xs) [] i x y is_x is_y = cc
zip_at (a ∷ xs) (b ∷ ys) zero x y is_x is_y = cc
zip_at (a ∷ xs) (b ∷ ys) (suc i) x y is_x is_y = zip_at xs ys i x y is_x is_y

copy_at : {X : Type 0} (n i : ℕ) (x : X) → i < n → slice_get (replicate n x) i ≡ Some x
copy_at zero i x less = absurd (omega (arith, less))
copy_at (suc n) zero x less = refl
copy_at (suc n) (suc i) x less = copy_at n i x (omega (arith, less))

same_map : {X Y : Type 0} (f g : X → Y) → ((x : X) → f x ≡ g x) → (xs : List X) → map f xs ≡ map g xs
same_map f g same [] = refl
same_map f g same (x ∷ xs) = ap (λ y. y ∷ map f xs) (same x) ∙ ap (λ ys. g x ∷ ys) (same_map f g same xs)

-- the number stands where it was found
stands_at : (n : ℕ) (ns : List ℕ) (i : ℕ) → position (nat_eq n) ns ≡ Some i → slice_get ns i ≡ Some n
stands_at n ns i found =
    let at = position-Some (nat_eq n) ns i 0 found in
    slice_get-get_or ns i 0 at.0 ∙ ap (λ (m : ℕ). Some m) (sym (eqb-true n (get_or ns i 0) at.1))

module _ (plan : PlanParts) (part : ℕ) where
  -- a mesh among those that are known of its owner
  abbrev owner_gives : (mesh : ℕ) → Known → MeshPlan → Option AnyMesh
  owner_gives mesh known m =
      option_and_then (λ all. option_and_then (slice_get all) (position (nat_eq mesh) (provided_by plan part m.owner)))
      (option_and_then (slice_get known.received) (position (nat_eq mesh) (received_meshes plan part)))

  nothing : (all : Option (List AnyMesh)) → option_and_then (λ xs. option_and_then (slice_get xs) None) all ≡ None
  nothing None = refl
  nothing (Some xs) = refl

  module _ (known : Known) (given : List AnyMesh) (told : IsToldBy plan part known given) where
    at_places : (mesh i j : ℕ) (m : MeshPlan) → slice_get plan.meshes mesh ≡ Some m → position (nat_eq mesh) (received_meshes plan part) ≡ Some i
        → position (nat_eq mesh) (provided_by plan part m.owner) ≡ Some j
        → owner_gives mesh known m ≡ owner_gives mesh (known_by plan part known.own given) m
    at_places mesh i j m is at_i at_j =
        let at : slice_get (received_meshes plan part) i ≡ Some mesh = stands_at mesh (received_meshes plan part) i at_i in
        let within : i < length (received_meshes plan part) = slice_get_within (received_meshes plan part) i mesh at in
        let inside : i < length given = rw told.count within in
        let it : AnyMesh = get_or given i (Two []) in
        let is_it : slice_get given i ≡ Some it = slice_get-get_or given i (Two []) inside in
        let place : place_at_owner plan part mesh ≡ j =
        ap (λ o. unwrap_or (option_and_then (λ (x : MeshPlan). position (nat_eq mesh) (provided_by plan part x.owner)) o) 0) is
        ∙ ap (λ o. unwrap_or o 0) at_j in
        let copies : slice_get (replicate (place_at_owner plan part mesh + 1) it) j ≡ Some it =
        copy_at (place_at_owner plan part mesh + 1) j it (omega (arith, place)) in
        let right : owner_gives mesh (known_by plan part known.own given) m ≡ Some it =
        rw at_i (rw (slice_get-map (λ pair. owners_meshes plan part pair.0 pair.1) (zip (received_meshes plan part) given) i)
        (rw (zip_at (received_meshes plan part) given i mesh it at is_it) (rw at_j copies))) in
        sym (ap (option_and_then (owner_gives mesh known)) is) ∙ told.each i mesh at ∙ is_it ∙ sym right

    owner_same : (mesh : ℕ) (m : MeshPlan) → slice_get plan.meshes mesh ≡ Some m
        → owner_gives mesh known m ≡ owner_gives mesh (known_by plan part known.own given) m
    owner_same mesh m is = by (position (nat_eq mesh) (received_meshes plan part)) (position (nat_eq mesh) (provided_by plan part m.owner)) refl refl
      where
        by : (i j : Option ℕ) → position (nat_eq mesh) (received_meshes plan part) ≡ i → position (nat_eq mesh) (provided_by plan part m.owner) ≡ j
            → owner_gives mesh known m ≡ owner_gives mesh (known_by plan part known.own given) m
        by None j none at_j = rw none refl
        by (Some i) None at_i none = rw none (nothing _ ∙ sym (nothing _))
        by (Some i) (Some j) at_i at_j = at_places mesh i j m is at_i at_j

    mesh_same : (mesh : ℕ) → received_mesh plan part known mesh ≡ received_mesh plan part (known_by plan part known.own given) mesh
    mesh_same mesh = by (slice_get plan.meshes mesh) refl
      where
        by : (o : Option MeshPlan) → slice_get plan.meshes mesh ≡ o
            → received_mesh plan part known mesh ≡ received_mesh plan part (known_by plan part known.own given) mesh
        by None none = rw none refl
        by (Some m) is =
            ap (option_and_then (owner_gives mesh known)) is ∙ owner_same mesh m is
            ∙ sym (ap (option_and_then (owner_gives mesh (known_by plan part known.own given))) is)

    pub points_same : (mesh : ℕ) → points_of plan part known mesh ≡ points_of plan part (known_by plan part known.own given) mesh
    points_same mesh =
        ap (λ o. option_map_or vertices_of (own_mesh plan part known mesh) (option_map_or vertices_of o [])) (mesh_same mesh)

  module _ (one other : Known) (same : (mesh : ℕ) → points_of plan part one mesh ≡ points_of plan part other mesh) where
    width_same : (entry : PlanEntry) → width_of plan part one entry ≡ width_of plan part other entry
    width_same entry = ap (λ (ps : Points). option_map_or (λ n. n) (components_on plan entry.data_id entry.mesh) 0 * length ps) (same entry.mesh)

    values_same : (entries : List PlanEntry) (entry : PlanEntry) (values : List ℤ)
        → values_at plan part one entries entry values ≡ values_at plan part other entries entry values
    values_same [] entry values = refl
    values_same (e ∷ rest) entry values =
        ap (λ n. if nat_eq e.data_id entry.data_id && nat_eq e.mesh entry.mesh then take n values else values_at plan part one rest entry (drop n values)) (width_same e)
        ∙ ap (λ (xs : List ℤ). if nat_eq e.data_id entry.data_id && nat_eq e.mesh entry.mesh then take (width_of plan part other e) values else xs)
        (values_same rest entry (drop (width_of plan part other e) values))

    sample_same : (e : Exchange) (written : Written) → sample_of plan part one e written ≡ sample_of plan part other e written
    sample_same e written =
        ap (λ (vs : List ℤ). let s : Sample = record { time = written.time; field = record { components = components_of plan e; values = vs } } in s)
        (values_same (write_entries plan part) (record { data_id = e.data_id; mesh = write_mesh plan part e }) written.values)

    wave_same : (w k : ℕ) (written : List Written) (x : ℕ) (o : Option Exchange)
        → written_wave plan part one w k written x o ≡ written_wave plan part other w k written x o
    wave_same w k written x None = refl
    wave_same w k written x (Some e) =
        ap (λ (ps : Points). write_fault plan part w k x (mapped_wave (map_at plan part e.write_map) ps (points_of plan part one e.mesh)
        (posted_samples plan part e.substeps (map (sample_of plan part one e) written)))) (same (write_mesh plan part e))
        ∙ ap (λ (ps : Points). write_fault plan part w k x (mapped_wave (map_at plan part e.write_map) (points_of plan part other (write_mesh plan part e)) ps
        (posted_samples plan part e.substeps (map (sample_of plan part one e) written)))) (same e.mesh)
        ∙ ap (λ (ss : List Sample). write_fault plan part w k x (mapped_wave (map_at plan part e.write_map) (points_of plan part other (write_mesh plan part e))
        (points_of plan part other e.mesh) (posted_samples plan part e.substeps ss)))
        (same_map (sample_of plan part one e) (sample_of plan part other e) (sample_same e) written)

    pub post_same : (w k : ℕ) (written : List Written) → post_of plan part one w k written ≡ post_of plan part other w k written
    post_same w k written =
        ap all_or_first (same_map (λ x. written_wave plan part one w k written x (slice_get plan.exchanges x))
        (λ x. written_wave plan part other w k written x (slice_get plan.exchanges x)) (λ x. wave_same w k written x (slice_get plan.exchanges x)) (sent plan part))

    zeros_same : (e : Exchange) → zeros plan part one e ≡ zeros plan part other e
    zeros_same e = rw (same e.mesh) refl

    initial_same : (first : Written) (x : ℕ) (o : Option Exchange) → initial_wave plan part one first x o ≡ initial_wave plan part other first x o
    initial_same first x None = refl
    initial_same first x (Some e) =
        ap (λ (r : Result Wave (Option Fault)). if e.initialize then r else Ok (zeros plan part one e)) (wave_same 0 0 (first ∷ []) x (Some e))
        ∙ ap (λ (wave : Wave). if e.initialize then written_wave plan part other 0 0 (first ∷ []) x (Some e) else Ok wave) (zeros_same e)

    pub first_same : (values : List ℤ) → initial_post plan part one values ≡ initial_post plan part other values
    first_same values =
        let first : Written = record { window = 0; iteration = 0; step = 0; time = 0; values = values } in
        ap all_or_first (same_map (λ x. initial_wave plan part one first x (slice_get plan.exchanges x))
        (λ x. initial_wave plan part other first x (slice_get plan.exchanges x)) (λ x. initial_same first x (slice_get plan.exchanges x)) (sent plan part))

    input_same : (w k x : ℕ) (o : Option Exchange) (input : InputWave) → read_wave plan part one w k x o input ≡ read_wave plan part other w k x o input
    input_same w k x None input = refl
    input_same w k x (Some e) input =
        ap (λ (ps : Points). with_wave plan part w k x input (mapped_wave (map_at plan part e.read_map) ps (points_of plan part one (read_mesh plan part e)) input.wave))
        (same e.mesh)
        ∙ ap (λ (ps : Points). with_wave plan part w k x input (mapped_wave (map_at plan part e.read_map) (points_of plan part other e.mesh) ps input.wave))
        (same (read_mesh plan part e))

    pub inputs_same : (w k : ℕ) (waves : List InputWave) → mapped_inputs plan part one w k waves ≡ mapped_inputs plan part other w k waves
    inputs_same w k waves =
        ap all_or_first (same_map (λ at. read_wave plan part one w k at.0 (slice_get plan.exchanges at.0) at.1)
        (λ at. read_wave plan part other w k at.0 (slice_get plan.exchanges at.0) at.1)
        (λ at. input_same w k at.0 (slice_get plan.exchanges at.0) at.1) (zip (received plan part) waves))
