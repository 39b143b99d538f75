-- What is kept of the entries that a participant writes is of the plan's entries, once it has all its meshes.
use Rattle.std.proofs.Common.{◌≡◌, ℕ, ◌*◌, ◌<◌, true, ◌&&◌, nat_eq, nat_lt, List, [], ◌∷◌, length, map, position, slice_get, Option, Some, None, Contains, refl, ap, ap₂, sym, subst, mul_comm, ℤ, ◌∙◌, arith}
use Rattle.std.specs.Prelude.{option_map, option_and_then, unwrap_or}
use Rattle.std.specs.List.{list_all}
use Rattle.std.specs.Option.{option_map_or}
use Rattle.std.proofs.lemmas.Bool.{and_parts, eq-eqb, ltb-true}
use Rattle.std.proofs.lemmas.List.Elements.{All-contains}
use Rattle.plan_order.proofs.Loops.{head_in, tail_in}
use Rattle.plan_order.proofs.Orders.{none_in_nil}
use Rattle.mesh_data.specs.AnyMeshes.{vertices_of}
use Rattle.mesh_data.specs.declared.any_mesh.AnyMesh.{AnyMesh}
use Rattle.cpl_plan.specs.PlanWords.{provides, is_among, mesh_carries, components, components_on}
use Rattle.cpl_plan.specs.ValidPlan.{IsValidPlan}
use Rattle.cpl_plan.specs.declared.parts.PlanParts.{PlanParts}
use Rattle.cpl_plan.specs.declared.parts.Part.{Part}
use Rattle.cpl_plan.specs.declared.parts.PlanEntry.{PlanEntry}
use Rattle.cpl_plan.specs.declared.parts.MeshPlan.{MeshPlan}
use Rattle.cpl_plan.specs.declared.parts.DataPlan.{DataPlan}
use Rattle.cpl_plan.proofs.Readings.{each_at, passes_at, among_in, there}
use Rattle.core_laws.proofs.Steps.{all_tell}
use Rattle.wave_coupling.specs.Known.{points_of, provided_by, received_mesh, width_of, write_entries}
use Rattle.participant_words.specs.KnownByReply.{known_by}
use Rattle.participant_tables.specs.WriteKept.{WriteKept}
use Rattle.participant_tables.specs.WriteSteps.{entry_components, opening_write, place_of}
use Rattle.participant_tables.specs.Named.{Called}
use Rattle.participant_tables.specs.declared.read_table.ReadEntry.{ReadEntry}
use Rattle.participant_waves.specs.Written.{AreEntries}
use Rattle.participant_waves.proofs.PlacesFound.{found_there, place_there, at_its_place}
use Rattle.participant_state.specs.Together.{AreFilled, IsOfPlan, shape_of}

-- what is seen of two lists beside one another, where their items belong together
pub map_beside : {X Y Z W : Type 0} (s : X → Z) (o : Y → Z) (f : X → W) (g : Y → W) (xs : List X) (ys : List Y) → map s xs ≡ map o ys
    → ((x : X) (y : Y) → Contains xs x → Contains ys y → s x ≡ o y → f x ≡ g y) → map f xs ≡ map g ys
map_beside s o f g [] [] same each = refl
map_beside s o f g [] (y ∷ ys) same each = cc
map_beside s o f g (x ∷ xs) [] same each = cc
map_beside s o f g (x ∷ xs) (y ∷ ys) same each =
    let first : s x ≡ o y = cc in
    let others : map s xs ≡ map o ys = cc in
    ap₂ (λ w ws. w ∷ ws) (each x y (head_in x xs) (head_in y ys) first)
    (map_beside s o f g xs ys others (λ a b one other is. each a b (tail_in x xs a one) (tail_in y ys b other) is))

-- there are as many components as are counted where there are none
counted : (om : Option MeshPlan) (od : Option DataPlan) (m : MeshPlan) (d : DataPlan) → om ≡ Some m → od ≡ Some d
    → option_and_then (λ e. option_map (λ n. components e n) om) od ≡ Some (option_map_or (λ n. n) (option_and_then (λ e. option_map (λ n. components e n) om) od) 0)
counted None None m d at on = cc
counted None (Some e) m d at on = cc
counted (Some n) None m d at on = cc
counted (Some n) (Some e) m d at on = refl

module _ (plan : PlanParts) (part : ℕ) (valid : IsValidPlan plan) where
  -- an entry is on one of the participant's own meshes, which carries its data
  pub on_own_mesh : (entry : PlanEntry) → Contains (write_entries plan part) entry
      → (provides plan part entry.mesh ≡ true) × (mesh_carries plan entry.mesh entry.data_id ≡ true)
  on_own_mesh entry inside = by (slice_get plan.parts part) refl inside
    where
      by : (o : Option Part) → slice_get plan.parts part ≡ o → Contains (option_map_or (λ (p : Part). p.writes) o []) entry
          → (provides plan part entry.mesh ≡ true) × (mesh_carries plan entry.mesh entry.data_id ≡ true)
      by None at inside = absurd (none_in_nil entry inside)
      by (Some p) at inside =
          and_parts (provides plan part entry.mesh) (mesh_carries plan entry.mesh entry.data_id)
          (all_tell (λ f. provides plan part f.mesh && mesh_carries plan f.mesh f.data_id) p.writes entry
          (each_at (λ q r. list_all (λ f. provides plan q f.mesh && mesh_carries plan f.mesh f.data_id) r.writes) plan.parts valid.participants.written_on_own_meshes part p at) inside)

  -- data that a mesh carries have components there
  pub carried_components : (mesh data_id : ℕ) → mesh_carries plan mesh data_id ≡ true
      → components_on plan data_id mesh ≡ Some (option_map_or (λ n. n) (components_on plan data_id mesh) 0)
  carried_components mesh data_id is =
      let found = passes_at plan.meshes mesh (λ m. is_among data_id m.data_list) is in
      let within : data_id < length plan.data_list =
      ltb-true data_id (length plan.data_list)
      (all_tell (λ d. nat_lt d (length plan.data_list)) found.0.data_list data_id
      (each_at (λ _ m. list_all (λ d. nat_lt d (length plan.data_list)) m.data_list) plan.meshes valid.meshes.data_declared mesh found.0 found.1)
      (among_in data_id found.0.data_list found.2)) in
      let item = there plan.data_list data_id within in
      counted (slice_get plan.meshes mesh) (slice_get plan.data_list data_id) found.0 item.0 found.1 item.1

  -- a provided mesh stands at its place
  pub own_place : (mesh : ℕ) → provides plan part mesh ≡ true → (i : ℕ) × (position (nat_eq mesh) (provided_by plan part part) ≡ Some i)
  own_place mesh is =
      let found = passes_at plan.parts part (λ q. is_among mesh q.provides) is in
      let provided : provided_by plan part part ≡ found.0.provides = ap (λ (o : Option Part). option_map_or (λ q. q.provides) o []) found.1 in
      place_there (position (nat_eq mesh) (provided_by plan part part))
      (found_there (nat_eq mesh) (provided_by plan part part) mesh
      (subst (λ (ns : List ℕ). Contains ns mesh) (sym provided) (among_in mesh found.0.provides found.2)) (eq-eqb mesh mesh refl))

  -- the mesh that is kept at the place of a provided mesh
  pub own_at : (own : List AnyMesh) → length own ≡ length (provided_by plan part part) → (mesh : ℕ) → provides plan part mesh ≡ true
      → (g : AnyMesh) × (slice_get own (place_of plan part mesh) ≡ Some g)
      × ((received : List AnyMesh) → points_of plan part (known_by plan part own received) mesh ≡ vertices_of g)
  own_at own many mesh is =
      let place = own_place mesh is in
      let same : place_of plan part mesh ≡ place.0 = ap (λ (o : Option ℕ). unwrap_or o 0) place.1 in
      let within = (at_its_place (provided_by plan part part) mesh place.0 place.1).0 in
      let found = there own place.0 (omega (arith, many, within)) in (
        found.0,
        ap (slice_get own) same ∙ found.1,
        λ received.
            ap (λ (o : Option AnyMesh). option_map_or vertices_of o (option_map_or vertices_of (received_mesh plan part (known_by plan part own received) mesh) []))
            (ap (option_and_then (slice_get own)) place.1 ∙ found.1),
      )

  module _ (names : Called) (own received : List AnyMesh) (writes : List WriteKept) (reads : List ReadEntry) (times : List ℕ)
      (of : IsOfPlan plan part names own writes reads) (filled : AreFilled own writes times) where
    width_is : (e : WriteKept) (entry : PlanEntry) → Contains writes e → Contains (write_entries plan part) entry → shape_of e ≡ opening_write plan part entry
        → length e.values ≡ width_of plan part (known_by plan part own received) entry
    width_is e entry inside listed is =
        let on = on_own_mesh entry listed in
        let at = own_at own of.meshes entry.mesh on.0 in
        let place : e.mesh ≡ place_of plan part entry.mesh = ap (λ (o : WriteKept). o.mesh) is in
        let count : e.components ≡ entry_components plan entry = ap (λ (o : WriteKept). o.components) is in
        let have = All-contains (λ (o : WriteKept). o.mesh ≡ place_of plan part entry.mesh → length o.values ≡ length (vertices_of at.0) * o.components) writes e
        (filled.values (place_of plan part entry.mesh) at.0 at.1) inside place in
        have ∙ ap (λ (n : ℕ). length (vertices_of at.0) * n) count
        ∙ mul_comm (length (vertices_of at.0)) (entry_components plan entry)
        ∙ ap (λ (points : List (List ℤ)). entry_components plan entry * length points) (sym (at.2 received))

    components_are : (e : WriteKept) (entry : PlanEntry) → Contains (write_entries plan part) entry → shape_of e ≡ opening_write plan part entry
        → Some e.components ≡ components_on plan entry.data_id entry.mesh
    components_are e entry listed is =
        ap (λ (o : WriteKept). Some o.components) is ∙ sym (carried_components entry.mesh entry.data_id (on_own_mesh entry listed).1)

    pub entries_stand : AreEntries plan part (known_by plan part own received) writes
    entries_stand = record {
      widths = map_beside shape_of (opening_write plan part) (λ (e : WriteKept). length e.values) (width_of plan part (known_by plan part own received)) writes (write_entries plan part) of.written width_is;
      components = map_beside shape_of (opening_write plan part) (λ (e : WriteKept). Some e.components) (λ (entry : PlanEntry). components_on plan entry.data_id entry.mesh) writes (write_entries plan part) of.written
          (λ e entry inside listed is. components_are e entry listed is);
    }
