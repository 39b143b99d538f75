-- What an entry is read from, and which call reads it.
use Rattle.std.proofs.Common.{◌≡◌, ◌⊎◌, inl, inr, ℕ, suc, ◌+◌, ◌-◌, ◌*◌, ◌<◌, ◌≤◌, true, false, ◌||◌, nat_eq, nat_lt, cond, List, [], ◌∷◌, map, length, get_or, slice_get, Option, Some, None, IfSome, All, ℤ, refl, ap, sym, subst, ◌∙◌, arith}
use Rattle.std.specs.Prelude.{option_map, option_and_then}
use Rattle.std.specs.Option.{option_map_or}
use Rattle.std.proofs.lemmas.Bool.{and_parts, eqb-true, or_cases}
use Rattle.std.proofs.lemmas.List.{length-map}
use Rattle.std.proofs.lemmas.List.Elements.{All-contains}
use Rattle.std.proofs.lemmas.List.Quantifiers.{position-Some}
use Rattle.std.proofs.lemmas.Nat.{mul-le}
use Rattle.std.proofs.lemmas.Option.{same_Some, slice_get-get_or, slice_get-map}
use Rattle.field_buffers.specs.Rows.{HasRow, rows_of}
use Rattle.waveform.specs.WaveValue.{read}
use Rattle.waveform.specs.IsWave.{first_time, last_time}
use Rattle.waveform.specs.declared.sample.Sample.{Sample}
use Rattle.mesh_data.specs.AnyMeshes.{vertices_of}
use Rattle.mesh_data.specs.declared.any_mesh.AnyMesh.{AnyMesh}
use Rattle.cpl_plan.specs.PlanWords.{components}
use Rattle.cpl_plan.specs.ValidPlan.{IsValidPlan}
use Rattle.cpl_plan.specs.declared.parts.PlanParts.{PlanParts}
use Rattle.cpl_plan.specs.declared.parts.PlanEntry.{PlanEntry}
use Rattle.cpl_plan.specs.declared.parts.MeshPlan.{MeshPlan}
use Rattle.cpl_plan.specs.declared.parts.DataPlan.{DataPlan}
use Rattle.cpl_plan.proofs.Readings.{each_at, there}
use Rattle.wave_coupling.specs.InputWave.{InputWave}
use Rattle.wave_coupling.specs.Known.{read_entries}
use Rattle.wave_coupling.specs.MappedInputs.{degree_of, input_for}
use Rattle.wave_coupling.specs.Posts.{Wave, received}
use Rattle.wave_laws.proofs.Stills.{slice_in}
use Rattle.participant_tables.specs.ReadKept.{opening_read, opening_reads}
use Rattle.participant_tables.specs.WriteSteps.{entry_components}
use Rattle.participant_tables.specs.declared.clock.Clock.{Clock}
use Rattle.participant_tables.specs.declared.read_table.ReadEntry.{ReadEntry}
use Rattle.participant_tables.proofs.Serving.{degree-few, served-input, served-within}
use Rattle.participant_waves.specs.Readable.{HasRowsOf, IsReadable}
use Rattle.participant_waves.specs.declared.kept_input.KeptInput.{KeptInput}
use Rattle.participant_words.specs.Course.{Course}
use Rattle.participant_words.specs.Entries.{components_in, components_read}
use Rattle.participant_words.specs.Named.{data_on, entry_read, is_entry, is_on, place_of}
use Rattle.participant_words.specs.Refusals.{Refusal, bad_length, bad_vertex, first_of, needing, on_mesh, or_then, phase_refuses, refusal_of_read_data, where_holds}
use Rattle.participant_words.specs.Entries.{size_at}
use Rattle.participant_words.specs.Questions.{most_step}
use Rattle.participant_words.specs.declared.api_err.ApiErr.TheVariants.{BadReadTime, NotReadable, UnknownData}
use Rattle.participant_words.specs.declared.phase.Call.TheVariants.{ReadData}
use Rattle.participant_state.specs.Kept.{input_kept}
use Rattle.participant_state.specs.Together.{AreRead}

-- values for each vertex reach as far as the row of one of them
pub has_row : (components vertex size : ℕ) (values : List ℤ) → vertex < size → length values ≡ size * components → HasRow components values vertex
has_row components vertex size values below long =
    let most : suc vertex * components ≤ size * components = mul-le (suc vertex) components size components (omega (arith, below)) (omega (arith)) in
    let step : suc vertex * components ≡ vertex * components + components = omega (arith) in
    omega (arith, most, step, long)

dimensions_few : (n : ℕ) → (nat_eq n 2 || nat_eq n 3) ≡ true → n ≤ 3
dimensions_few n is = elim (or_cases (nat_eq n 2) (nat_eq n 3) is) [ inl two ↦ omega (arith, eqb-true n 2 two) | inr three ↦ omega (arith, eqb-true n 3 three) ]

components_by : (d : DataPlan) (m : MeshPlan) → m.dimensions ≤ 3 → components d m ≤ 3
components_by d m few = elim d.vector as (λ b. cond b m.dimensions 1 ≤ 3) [ true ↦ few | false ↦ omega arith ]

-- an entry has few components
pub few_components : (plan : PlanParts) → IsValidPlan plan → (entry : PlanEntry) → entry_components plan entry ≤ 3
few_components plan valid entry = by (slice_get plan.data_list entry.data_id) (slice_get plan.meshes entry.mesh) refl
  where
    by : (od : Option DataPlan) (om : Option MeshPlan) → slice_get plan.meshes entry.mesh ≡ om
        → option_map_or (λ n. n) (option_and_then (λ d. option_map (λ m. components d m) om) od) 0 ≤ 3
    by None om is = omega arith
    by (Some d) None is = omega arith
    by (Some d) (Some m) is =
        components_by d m (dimensions_few m.dimensions (each_at (λ _ mesh. nat_eq mesh.dimensions 2 || nat_eq mesh.dimensions 3) plan.meshes valid.meshes.dimensions entry.mesh m is))

-- a kept entry is one of the plan
module _ (plan : PlanParts) (part : ℕ) (reads : List ReadEntry) (are : reads ≡ opening_reads plan part) (number : ℕ) (r : ReadEntry) (at : slice_get reads number ≡ Some r)
    (within : number < length (read_entries plan part)) where
  pub of_entry : (entry : PlanEntry) × (slice_get (read_entries plan part) number ≡ Some entry) × (r ≡ opening_read plan part entry)
  of_entry =
      let found = there (read_entries plan part) number within in (
        found.0,
        found.1,
        same_Some r (opening_read plan part found.0)
            (sym at ∙ ap (λ (rs : List ReadEntry). slice_get rs number) are ∙ slice_get-map (opening_read plan part) (read_entries plan part) number ∙ ap (option_map (opening_read plan part)) found.1),
      )

  pub of_components : r.components ≡ components_read plan part number
  of_components =
      ap (λ (one : ReadEntry). one.components) of_entry.2 ∙ sym (ap (λ (o : Option PlanEntry). option_map_or (components_in plan part) o 0) of_entry.1)

  pub components_few : IsValidPlan plan → r.components ≤ 3
  components_few valid = omega (arith, ap (λ (one : ReadEntry). one.components) of_entry.2, few_components plan valid of_entry.0)

  pub degree_few : IsValidPlan plan → r.degree ≤ 1
  degree_few valid = omega (arith, ap (λ (one : ReadEntry). one.degree) of_entry.2, degree-few plan valid part of_entry.0)

  pub input_within : IsValidPlan plan → (inputs : List KeptInput) → length inputs ≡ length (received plan part) → r.received < length inputs
  input_within valid inputs taken =
      omega (arith, ap (λ (one : ReadEntry). one.received) of_entry.2, served-within plan valid part of_entry.0 (slice_in (read_entries plan part) number of_entry.0 of_entry.1), taken)

  -- it reads the input at its place
  pub reads_input : IsValidPlan plan → (inputs : List KeptInput) (input : KeptInput) → length inputs ≡ length (received plan part) → slice_get inputs r.received ≡ Some input
      → (vertices : List ℕ) (time : ℕ) (out : List ℤ) → out ≡ rows_of r.components vertices (read input.wave r.degree time)
      → IfSome (slice_get (read_entries plan part) number) (λ entry. out
      ≡ rows_of (components_in plan part entry) vertices (read (input_for plan part (map input_kept inputs) entry).wave (degree_of plan part entry) time))
  reads_input valid inputs input taken found vertices time out is =
      let entry = of_entry.0 in
      let served = served-input plan valid part entry (map input_kept inputs) (slice_in (read_entries plan part) number entry of_entry.1) (length-map inputs input_kept ∙ taken) in
      let kept : slice_get (map input_kept inputs) (opening_read plan part entry).received ≡ Some (input_kept input) =
      ap (λ (one : ReadEntry). slice_get (map input_kept inputs) one.received) (sym of_entry.2) ∙ slice_get-map input_kept inputs r.received ∙ ap (option_map input_kept) found in
      let wave : input.wave ≡ (input_for plan part (map input_kept inputs) entry).wave =
      ap (λ (one : InputWave). one.wave) (same_Some (input_kept input) (input_for plan part (map input_kept inputs) entry) (sym kept ∙ served)) in
      let same : out ≡ rows_of (components_in plan part entry) vertices (read (input_for plan part (map input_kept inputs) entry).wave (degree_of plan part entry) time) =
      is ∙ ap (λ (one : ReadEntry). rows_of one.components vertices (read input.wave one.degree time)) of_entry.2
      ∙ ap (λ (w : Wave). rows_of (components_in plan part entry) vertices (read w (degree_of plan part entry) time)) wave in
      subst (λ (o : Option PlanEntry). IfSome o (λ e. out ≡ rows_of (components_in plan part e) vertices (read (input_for plan part (map input_kept inputs) e).wave (degree_of plan part e) time)))
      (sym of_entry.1) same

  -- and has a row there for each vertex of its mesh
  pub rows_there : (own : List AnyMesh) (clock : Clock) (inputs : List KeptInput) (input : KeptInput) (place : ℕ) → AreRead own reads clock inputs → slice_get inputs r.received ≡ Some input
      → place < length own → IfSome (slice_get (read_entries plan part) number) (λ entry. place_of plan part entry.mesh ≡ place)
      → (vertices : List ℕ) → All (λ v. v < option_map_or (λ mesh. length (vertices_of mesh)) (slice_get own place) 0) vertices
      → All (λ (s : Sample). All (HasRow r.components s.field.values) vertices) input.wave
  rows_there own clock inputs input place read found inside on vertices below k d k_in j e j_in =
      let mesh = there own place inside in
      let on_entry : place_of plan part of_entry.0.mesh ≡ place = subst (λ (o : Option PlanEntry). IfSome o (λ entry. place_of plan part entry.mesh ≡ place)) of_entry.1 on in
      let here : r.mesh ≡ place = ap (λ (one : ReadEntry). one.mesh) of_entry.2 ∙ on_entry in
      let has = All-contains (HasRowsOf own inputs) reads r read.rows (slice_in reads number r at) in
      let long = has mesh.0 input (ap (slice_get own) here ∙ mesh.1) found k d k_in in
      let less : get_or vertices j e < length (vertices_of mesh.0) =
      omega (arith, below j e j_in, ap (λ (o : Option AnyMesh). option_map_or (λ m. length (vertices_of m)) o 0) mesh.1) in
      has_row r.components (get_or vertices j e) (length (vertices_of mesh.0)) (get_or input.wave k d).field.values less long

-- an input can be read until the window's end
pub still_readable : (own : List AnyMesh) (reads : List ReadEntry) (clock : Clock) (inputs : List KeptInput) (input : KeptInput) (i at : ℕ) → AreRead own reads clock inputs → slice_get inputs i ≡ Some input
    → clock.now ≤ clock.latest → at ≤ clock.latest - clock.now → (length input.wave ≡ 1) ⊎ ((first_time input.wave ≤ clock.now + at) × (clock.now + at ≤ last_time input.wave))
still_readable own reads clock inputs input i at read found before most = by (All-contains (λ (one : KeptInput). IsReadable clock.now clock.latest one.wave) inputs input read.spans (slice_in inputs i input found))
  where
    by : IsReadable clock.now clock.latest input.wave → (length input.wave ≡ 1) ⊎ ((first_time input.wave ≤ clock.now + at) × (clock.now + at ≤ last_time input.wave))
    by (inl one) = inl one
    by (inr spans) = inr (omega (arith, spans.0), omega (arith, spans.1, before, most))

-- the entry that is found is on the mesh at the place
pub found_on : (plan : PlanParts) (part place data_id number : ℕ) → entry_read plan part place data_id ≡ Some number
    → IfSome (slice_get (read_entries plan part) number) (λ entry. place_of plan part entry.mesh ≡ place)
found_on plan part place data_id number is =
    let d : PlanEntry = record { data_id = 0; mesh = 0 } in
    let found = position-Some (is_entry plan part place data_id) (read_entries plan part) number d is in
    let e : PlanEntry = get_or (read_entries plan part) number d in
    let both = and_parts (is_on plan part place e) (nat_eq e.data_id data_id) found.1 in
    subst (λ (o : Option PlanEntry). IfSome o (λ entry. place_of plan part entry.mesh ≡ place)) (sym (slice_get-get_or (read_entries plan part) number d found.0))
    (eqb-true (place_of plan part e.mesh) place both.0)

-- why a reading is refused once its mesh and its data are found
module _ (plan : PlanParts) (part : ℕ) (c : Course) (mesh data_name : List ℕ) (vertices : List ℕ) (at got place data_id : ℕ) where
  abbrev pub entry_refused : (number : ℕ) → Refusal
  entry_refused number =
      first_of (bad_vertex (size_at c place) vertices
      ∷ bad_length (length vertices * components_read plan part number) got
      ∷ where_holds (nat_lt (most_step c) at) (BadReadTime (most_step c)) ∷ [])

  pub read_refused : ((later : ℕ → Refusal) → or_then (phase_refuses plan part c ReadData) (on_mesh plan part c mesh later) ≡ later place)
      → data_on plan part place data_name ≡ Some data_id
      → refusal_of_read_data plan part c mesh data_name vertices at got ≡ needing (entry_read plan part place data_id) NotReadable entry_refused
  read_refused granted data_is =
      granted (λ p. needing (data_on plan part p data_name) UnknownData (λ id. needing (entry_read plan part p id) NotReadable (λ number.
      first_of (bad_vertex (size_at c p) vertices ∷ bad_length (length vertices * components_read plan part number) got ∷ where_holds (nat_lt (most_step c) at) (BadReadTime (most_step c)) ∷ []))))
      ∙ ap (λ (o : Option ℕ). needing o UnknownData (λ id. needing (entry_read plan part place id) NotReadable entry_refused)) data_is
