-- What is kept of a participant at the end of a window has values for each of its watch-points.
use Rattle.std.proofs.Common.{◌≡◌, inl, inr, ℕ, ◌+◌, ◌*◌, ◌<◌, ◌≤◌, nat_eq, List, [], length, get_or, slice_get, position, Option, Some, IfSome, All, Contains, ℤ, ap, sym, subst, ◌∙◌, arith, mul_comm}
use Rattle.std.specs.Prelude.{option_map, option_and_then, unwrap_or}
use Rattle.std.specs.Option.{option_map_or}
use Rattle.std.proofs.Math.Nat.{mul-le-mul_left}
use Rattle.std.proofs.lemmas.List.{length-map, get_or-map}
use Rattle.std.proofs.lemmas.List.Elements.{All-contains}
use Rattle.std.proofs.lemmas.Option.{slice_get-map, slice_get_within, get_or_from_slice_get}
use Rattle.cpl_plan.specs.ValidPlan.{IsValidPlan}
use Rattle.cpl_plan.specs.declared.parts.PlanParts.{PlanParts}
use Rattle.cpl_plan.specs.declared.parts.Part.{Part}
use Rattle.cpl_plan.specs.declared.parts.PlanEntry.{PlanEntry}
use Rattle.cpl_plan.specs.declared.parts.Watch.{Watch}
use Rattle.cpl_plan.proofs.Readings.{there}
use Rattle.mesh_data.specs.AnyMeshes.{vertices_of}
use Rattle.mesh_data.specs.Nearest.{nearest_vertex}
use Rattle.mesh_data.specs.declared.any_mesh.AnyMesh.{AnyMesh}
use Rattle.nn_mapping.proofs.NearestVertices.{nearest_vertex-IsNearest}
use Rattle.wave_coupling.specs.Posts.{Wave}
use Rattle.wave_coupling.specs.Known.{Known, points_of, provided_by, read_entries, received_mesh, write_entries}
use Rattle.wave_laws.proofs.Stills.{slice_in}
use Rattle.participant_words.specs.WatchShown.{watches}
use Rattle.participant_tables.specs.ReadKept.{opening_read, opening_reads}
use Rattle.participant_tables.specs.WriteKept.{WriteKept}
use Rattle.participant_tables.specs.declared.clock.Clock.{Clock}
use Rattle.participant_tables.specs.declared.read_table.ReadEntry.{ReadEntry}
use Rattle.participant_tables.proofs.Serving.{served-within, degree-few}
use Rattle.participant_waves.specs.CanShow.{CanShow}
use Rattle.participant_waves.specs.Readable.{HasRowsOf, IsReadable}
use Rattle.participant_waves.specs.RowsKept.{HasInput, HasRead, HasWritten, HaveRows}
use Rattle.participant_waves.specs.declared.kept_input.KeptInput.{KeptInput}
use Rattle.participant_waves.specs.declared.watches.Watches.{Watches}
use Rattle.participant_waves.proofs.KnownPoints.{place_of as place_provided}
use Rattle.participant_waves.proofs.PlacesFound.{at_its_place, place_there}
use Rattle.participant_waves.proofs.StepsKept.{many, components_at, width_at}
use Rattle.participant_waves.proofs.WatchPlaces.{watched_provided}

-- a row of a vertex that is there
row_fits : (vertex components vertices count : ℕ) → vertex < vertices → count ≡ components * vertices → vertex * components + components ≤ count
row_fits vertex components vertices count below is =
    let next : vertex + 1 ≤ vertices = omega (arith, below) in
    let less : components * (vertex + 1) ≤ components * vertices = mul-le-mul_left components next in
    omega (arith, less, is)

module _ (plan : PlanParts) (valid : IsValidPlan plan) (kept : Watches) (reads : List ReadEntry) (writes : List WriteKept) (inputs : List KeptInput) (clock : Clock)
    (can : CanShow plan kept reads writes inputs clock) where
  abbrev part : ℕ
  part = can.part

  abbrev known : Known
  known = can.known

  participant : (p : Part) × (slice_get plan.parts part ≡ Some p)
  participant = there plan.parts part can.participant

  module _ (number : ℕ) (watch : Watch) (at : slice_get (watches plan part) number ≡ Some watch) where
    abbrev vertex : ℕ
    vertex = get_or kept.vertices number 0

    abbrev points : List (List ℤ)
    points = points_of plan part known watch.mesh

    provides_is : provided_by plan part part ≡ participant.0.provides
    provides_is = ap (λ (o : Option Part). option_map_or (λ q. q.provides) o []) participant.1

    -- the watched mesh is at its place among the participant's own
    place : (i : ℕ) × (position (nat_eq watch.mesh) (provided_by plan part part) ≡ Some i)
    place =
        let found = place_there (position (nat_eq watch.mesh) participant.0.provides)
        (place_provided plan part participant.0 participant.1 (λ q. q.provides) watch.mesh
        (watched_provided plan part participant.0 valid participant.1 watch (slice_in (watches plan part) number watch at))) in
        (found.0, ap (λ (ns : List ℕ). position (nat_eq watch.mesh) ns) provides_is ∙ found.1)

    provided_at : (place.0 < length (provided_by plan part part)) × (slice_get (provided_by plan part part) place.0 ≡ Some watch.mesh)
    provided_at = at_its_place (provided_by plan part part) watch.mesh place.0 place.1

    mesh : (g : AnyMesh) × (slice_get known.own place.0 ≡ Some g)
    mesh = there known.own place.0 (omega (arith, can.meshes.many, provided_at.0))

    points_are : points ≡ vertices_of mesh.0
    points_are =
        ap (λ (o : Option AnyMesh). option_map_or vertices_of o (option_map_or vertices_of (received_mesh plan part known watch.mesh) []))
        (ap (option_and_then (slice_get known.own)) place.1 ∙ mesh.1)

    some_points : 1 ≤ length points
    some_points = omega (arith, ap length points_are, (can.meshes.each place.0 watch.mesh mesh.0 provided_at.1 mesh.1).some)

    vertex_is : vertex ≡ nearest_vertex points watch.at
    vertex_is =
        let nearest : Watch → ℕ = λ watch. nearest_vertex (points_of plan part known watch.mesh) watch.at in
        ap (λ (vs : List ℕ). get_or vs number 0) can.followed.nearest ∙ get_or-map nearest (watches plan part) number watch 0 (slice_get_within (watches plan part) number watch at)
        ∙ ap nearest (get_or_from_slice_get (watches plan part) number watch watch at)

    vertex_there : vertex < length points
    vertex_there = omega (arith, vertex_is, (nearest_vertex-IsNearest points watch.at some_points).vertex)

    written_on : (place : ℕ) (entry : PlanEntry) → slice_get (write_entries plan part) place ≡ Some entry → entry.mesh ≡ watch.mesh → IfSome (slice_get writes place) (HasWritten vertex)
    written_on place entry found same =
        let within = slice_get_within (write_entries plan part) place entry found in
        let e = there writes place (omega (arith, many plan part known writes can.entries, within)) in
        let components = components_at plan part known writes can.entries place entry e.0 found e.1 in
        let width : length e.0.values ≡ e.0.components * length points =
        width_at plan part known writes can.entries place entry e.0 found e.1
        ∙ ap (λ (o : Option ℕ). option_map_or (λ n. n) o 0 * length (points_of plan part known entry.mesh)) components
        ∙ ap (λ (m : ℕ). e.0.components * length (points_of plan part known m)) same in
        let has : HasWritten vertex e.0 = record {
          some = All-contains (λ (e : WriteKept). 1 ≤ length e.samples) writes e.0 can.stepped (slice_in writes place e.0 e.1);
          row = row_fits vertex e.0.components (length points) (length e.0.values) vertex_there width;
        } in
        subst (λ (o : Option WriteKept). IfSome o (HasWritten vertex)) (sym e.1) has

    read_on : (place : ℕ) (entry : PlanEntry) → slice_get (read_entries plan part) place ≡ Some entry → entry.mesh ≡ watch.mesh → HasInput inputs clock.now vertex (opening_read plan part entry)
    read_on at_entry entry found same =
        let e : ReadEntry = opening_read plan part entry in
        let inside = slice_in (read_entries plan part) at_entry entry found in
        let within : e.received < length inputs = omega (arith, served-within plan valid part entry inside, can.taken) in
        let input = there inputs e.received within in
        let listed : Contains reads e =
        subst (λ (rs : List ReadEntry). Contains rs e) (sym can.opened)
        (slice_in (opening_reads plan part) at_entry e (slice_get-map (opening_read plan part) (read_entries plan part) at_entry ∙ ap (option_map (opening_read plan part)) found)) in
        let own : slice_get known.own e.mesh ≡ Some mesh.0 =
        ap (slice_get known.own)
        (ap (λ (o : Option ℕ). unwrap_or o 0) (ap (λ (m : ℕ). position (nat_eq m) (provided_by plan part part)) same ∙ place.1)) ∙ mesh.1 in
        let rows = All-contains (HasRowsOf known.own inputs) reads e can.rows listed mesh.0 input.0 own input.1 in
        let read : HasRead clock.now vertex e input.0.wave = record {
          degree = degree-few plan valid part entry;
          time = All-contains (λ (input : KeptInput). IsReadable clock.now clock.now input.wave) inputs input.0 can.spans (slice_in inputs e.received input.0 input.1);
          row = λ k d in_wave.
              let count : length (get_or input.0.wave k d).field.values ≡ e.components * length points =
              rows k d in_wave ∙ ap (λ (n : ℕ). n * e.components) (sym (ap length points_are)) ∙ mul_comm (length points) e.components in
              row_fits vertex e.components (length points) (length (get_or input.0.wave k d).field.values) vertex_there count;
        } in
        record { there = within; input = subst (λ (o : Option KeptInput). IfSome o (λ input. HasRead clock.now vertex e input.wave)) (sym input.1) read }

  have_rows : HaveRows plan part kept.vertices writes inputs clock.now
  have_rows = record {
    participant = can.participant;
    many = ap length can.followed.nearest ∙ length-map (watches plan part) (λ (watch : Watch). nearest_vertex (points_of plan part known watch.mesh) watch.at);
    written = λ number watch at. (many plan part known writes can.entries, written_on number watch at);
    readable = λ number watch at. read_on number watch at;
  }

  pub have_all : HaveRows plan kept.part kept.vertices writes inputs clock.now
  have_all = subst (λ (p : ℕ). HaveRows plan p kept.vertices writes inputs clock.now) (sym can.followed.watcher) have_rows

  pub are_opened : reads ≡ opening_reads plan kept.part
  are_opened = can.opened ∙ ap (opening_reads plan) (sym can.followed.watcher)

-- what can be read until later can be read now
readable_now : (now latest : ℕ) (wave : Wave) → now ≤ latest → IsReadable now latest wave → IsReadable now now wave
readable_now now latest wave before (inl alone) = inl alone
readable_now now latest wave before (inr spans) = inr (spans.0, omega (arith, before, spans.1))

pub all_readable_now : (now latest : ℕ) (inputs : List KeptInput) → now ≤ latest → All (λ (input : KeptInput). IsReadable now latest input.wave) inputs
    → All (λ (input : KeptInput). IsReadable now now input.wave) inputs
all_readable_now now latest inputs before spans = λ k d within. readable_now now latest (get_or inputs k d).wave before (spans k d within)
