-- What watch-points show of what is kept is what they show of the plan.
use Rattle.std.proofs.Common.{◌≡◌, ℕ, suc, ◌+◌, ◌-◌, ◌<◌, ◌≤◌, Bool, true, false, ◌&&◌, nat_eq, cond, List, [], ◌∷◌, ◌++◌, length, map, get_or, slice_get, position, Option, None, Some, All, Contains, ℤ, refl, ap, sym, ◌∙◌, arith}
use Rattle.std.specs.Prelude.{option_map}
use Rattle.std.specs.List.{filter, flat_map, enumerate_from}
use Rattle.std.specs.Option.{option_map_or}
use Rattle.std.proofs.lemmas.Bool.{and_parts, eqb-true, eq-eqb}
use Rattle.std.proofs.lemmas.List.{get_or-map}
use Rattle.std.proofs.lemmas.List.Elements.{All-contains}
use Rattle.std.proofs.lemmas.List.Quantifiers.{position-Some}
use Rattle.std.proofs.lemmas.Option.{none-some, same_Some, slice_get-map, slice_get-get_or, slice_get_within, get_or_from_slice_get}
use Rattle.waveform.specs.declared.sample.Sample.{Sample}
use Rattle.waveform.specs.WaveValue.{read}
use Rattle.waveform.proofs.Places.{no_sample}
use Rattle.cpl_plan.specs.PlanWords.{components_on}
use Rattle.cpl_plan.specs.ValidPlan.{IsValidPlan}
use Rattle.cpl_plan.specs.declared.parts.PlanParts.{PlanParts}
use Rattle.cpl_plan.specs.declared.parts.PlanEntry.{PlanEntry}
use Rattle.cpl_plan.specs.declared.parts.Watch.{Watch}
use Rattle.cpl_plan.proofs.Readings.{there}
use Rattle.field_buffers.specs.Rows.{row_of}
use Rattle.mesh_data.specs.Nearest.{nearest_vertex}
use Rattle.plan_order.proofs.Loops.{head_in, tail_in}
use Rattle.wave_coupling.specs.Posts.{received}
use Rattle.wave_coupling.specs.Noted.{Written}
use Rattle.wave_coupling.specs.InputWave.{InputWave}
use Rattle.wave_coupling.specs.Known.{Known, points_of, read_entries, write_entries}
use Rattle.wave_coupling.specs.PostedWaves.{values_at}
use Rattle.wave_coupling.specs.MappedInputs.{input_for, degree_of}
use Rattle.wave_laws.proofs.Stills.{slice_in}
use Rattle.wave_values.proofs.WritesFit.{no_writes}
use Rattle.participant_words.specs.Course.{Turn}
use Rattle.participant_words.specs.Entries.{components_in}
use Rattle.participant_words.specs.WatchShown.{is_watched, last_values, shown_at, shown_read, shown_written, watch_row, watch_rows, watches}
use Rattle.participant_tables.specs.ReadKept.{opening_read}
use Rattle.participant_tables.specs.WriteKept.{WriteKept}
use Rattle.participant_tables.specs.declared.clock.Clock.{Clock}
use Rattle.participant_tables.proofs.Serving.{served-input}
use Rattle.participant_waves.specs.CanShow.{input_kept}
use Rattle.participant_waves.specs.RowsKept.{all_written, entry_read, entry_written, last_kept, row_kept, row_read, row_written, rows_kept, watch_kept}
use Rattle.participant_waves.specs.WatchesStand.{AreWatches}
use Rattle.participant_waves.specs.Written.{AreWritten}
use Rattle.participant_waves.specs.declared.kept_input.KeptInput.{KeptInput}
use Rattle.participant_waves.specs.declared.watches.Watches.{Watches}
use Rattle.participant_waves.proofs.PlacesFound.{found_there, place_there}
use Rattle.participant_waves.proofs.StepsKept.{many, components_at, steps_kept, widths_kept}
use Rattle.participant_waves.proofs.ValuesFound.{same_entry, values_found}

-- two functions that agree on a list give the same, of what passes a test
shown_alike : {X Y : Type 0} (f g : X → List Y) (p : X → Bool) (xs : List X) → ((x : X) → Contains xs x → f x ≡ g x) → flat_map f (filter p xs) ≡ flat_map g (filter p xs)
shown_alike f g p [] same = refl
shown_alike {X} {Y} f g p (x ∷ xs) same = by (p x) (shown_alike f g p xs (λ y inside. same y (tail_in x xs y inside)))
  where
    by : (b : Bool) → flat_map f (filter p xs) ≡ flat_map g (filter p xs) → flat_map f (cond b (x ∷ filter p xs) (filter p xs)) ≡ flat_map g (cond b (x ∷ filter p xs) (filter p xs))
    by true rest = ap (λ (ys : List Y). ys ++ flat_map f (filter p xs)) (same x (head_in x xs)) ∙ ap (λ (ys : List Y). g x ++ ys) rest
    by false rest = rest

-- the same over a list with its places
numbered_alike : {X Y : Type 0} (f g : ℕ × X → Y) (first : ℕ) (xs : List X) → ((k : ℕ) (x : X) → slice_get xs k ≡ Some x → f (first + k, x) ≡ g (first + k, x))
    → map f (enumerate_from first xs) ≡ map g (enumerate_from first xs)
numbered_alike f g first [] same = refl
numbered_alike {X} {Y} f g first (x ∷ xs) same =
    let none : first + 0 ≡ first = omega (arith) in
    let here : f (first, x) ≡ g (first, x) = sym (ap (λ (n : ℕ). f (n, x)) none) ∙ same 0 x refl ∙ ap (λ (n : ℕ). g (n, x)) none in
    ap (λ (y : Y). y ∷ map f (enumerate_from (first + 1) xs)) here
    ∙ ap (λ (ys : List Y). g (first, x) ∷ ys)
    (numbered_alike f g (first + 1) xs (λ k y at.
    let shift : first + suc k ≡ (first + 1) + k = omega (arith) in
    sym (ap (λ (n : ℕ). f (n, y)) shift) ∙ same (suc k) y at ∙ ap (λ (n : ℕ). g (n, y)) shift))

-- an entry is the same as itself
itself : (entry : PlanEntry) → same_entry entry entry ≡ true
itself entry = ap (λ (b : Bool). b && nat_eq entry.mesh entry.mesh) (eq-eqb entry.data_id entry.data_id refl) ∙ eq-eqb entry.mesh entry.mesh refl

module _ (plan : PlanParts) (part : ℕ) (known : Known) (writes : List WriteKept) (turn : Turn) (is : AreWritten plan part known turn.written writes)
    (stepped : All (λ (e : WriteKept). 1 ≤ length e.samples) writes) where
  module _ (place : ℕ) (entry : PlanEntry) (e : WriteKept) (at : position (same_entry entry) (write_entries plan part) ≡ Some place) (kept : slice_get writes place ≡ Some e) where
    found : (place < length (write_entries plan part)) × (same_entry entry (get_or (write_entries plan part) place entry) ≡ true)
        × ((k : ℕ) → k < place → same_entry entry (get_or (write_entries plan part) k entry) ≡ false)
    found = position-Some (same_entry entry) (write_entries plan part) place entry at

    -- what was written last of it
    written_last : values_at plan part known (write_entries plan part) entry (last_values turn.written) ≡ last_kept e
    written_last =
        let inside = slice_in writes place e kept in
        let long : length e.samples ≡ length turn.written = steps_kept plan part known writes turn.written is e inside in
        let some : 1 ≤ length e.samples = All-contains (λ (e : WriteKept). 1 ≤ length e.samples) writes e stepped inside in
        let last : ℕ = length turn.written - 1 in
        let within : last < length turn.written = omega (arith, long, some) in
        let within_kept : last < length e.samples = omega (arith, long, within) in
        ap (λ (o : Option Written). values_at plan part known (write_entries plan part) entry (option_map_or (λ one. one.values) o [])) (slice_get-get_or turn.written last no_writes within)
        ∙ ap (values_at plan part known (write_entries plan part) entry) (is.values last no_writes within)
        ∙ values_found plan part known (λ (e : WriteKept). (get_or e.samples last no_sample).field.values) entry (write_entries plan part) writes place e
        (widths_kept plan part known writes turn.written is last within) found.0 found.1 found.2 kept
        ∙ sym (ap (λ (o : Option Sample). option_map_or (λ s. s.field.values) o [])
        (ap (λ (n : ℕ). slice_get e.samples (n - 1)) long ∙ slice_get-get_or e.samples last no_sample within_kept))

    components_is : components_in plan part entry ≡ e.components
    components_is =
        let one : PlanEntry = get_or (write_entries plan part) place entry in
        let both = and_parts (nat_eq one.data_id entry.data_id) (nat_eq one.mesh entry.mesh) found.1 in
        let data_same : one.data_id ≡ entry.data_id = eqb-true one.data_id entry.data_id both.0 in
        let mesh_same : one.mesh ≡ entry.mesh = eqb-true one.mesh entry.mesh both.1 in
        ap (λ (o : Option ℕ). option_map_or (λ n. n) o 0)
        (sym (ap (λ (d : ℕ). components_on plan d one.mesh) data_same ∙ ap (λ (m : ℕ). components_on plan entry.data_id m) mesh_same)
        ∙ components_at plan part known writes is.entries place one e (slice_get-get_or (write_entries plan part) place entry found.0) kept)

  written_is : (vertex : ℕ) (entry : PlanEntry) → Contains (write_entries plan part) entry
      → shown_written plan part known turn vertex entry ≡ entry_written (write_entries plan part) writes vertex entry
  written_is vertex entry inside =
      let at = place_there (position (same_entry entry) (write_entries plan part)) (found_there (same_entry entry) (write_entries plan part) entry inside (itself entry)) in
      let place = at.0 in
      let within = (position-Some (same_entry entry) (write_entries plan part) place entry at.1).0 in
      let kept = there writes place (omega (arith, many plan part known writes is.entries, within)) in
      ap (λ (c : ℕ). row_of c vertex (values_at plan part known (write_entries plan part) entry (last_values turn.written))) (components_is place entry kept.0 at.1 kept.1)
      ∙ ap (row_of kept.0.components vertex) (written_last place entry kept.0 at.1 kept.1)
      ∙ sym (ap (λ (o : Option ℕ). option_map_or (λ place. option_map_or (row_written vertex) (slice_get writes place) []) o []) at.1
      ∙ ap (λ (o : Option WriteKept). option_map_or (row_written vertex) o []) kept.1)

module _ (plan : PlanParts) (valid : IsValidPlan plan) (part : ℕ) (inputs : List KeptInput) (taken : length (map input_kept inputs) ≡ length (received plan part)) where
  input_is : (now vertex : ℕ) (entry : PlanEntry) → Contains (read_entries plan part) entry
      → row_of (components_in plan part entry) vertex (read (input_for plan part (map input_kept inputs) entry).wave (degree_of plan part entry) now)
      ≡ entry_read inputs now vertex (opening_read plan part entry)
  input_is now vertex entry inside =
      by (slice_get inputs (opening_read plan part entry).received) (input_for plan part (map input_kept inputs) entry)
      (sym (slice_get-map input_kept inputs (opening_read plan part entry).received) ∙ served-input plan valid part entry (map input_kept inputs) inside taken)
    where
      by : (o : Option KeptInput) (input : InputWave) → option_map input_kept o ≡ Some input
          → row_of (components_in plan part entry) vertex (read input.wave (degree_of plan part entry) now) ≡ option_map_or (λ i. row_read now vertex (opening_read plan part entry) i.wave) o []
      by None input is = absurd (none-some input is)
      by (Some i) input is = ap (λ (one : InputWave). row_of (components_in plan part entry) vertex (read one.wave (degree_of plan part entry) now)) (sym (same_Some (input_kept i) input is))

module _ (plan : PlanParts) (valid : IsValidPlan plan) (part : ℕ) (known : Known) (kept : Watches) (writes : List WriteKept) (inputs : List KeptInput) (clock : Clock) (turn : Turn)
    (followed : AreWatches plan part known kept) (is : AreWritten plan part known turn.written writes) (stepped : All (λ (e : WriteKept). 1 ≤ length e.samples) writes)
    (taken : length (map input_kept inputs) ≡ length (received plan part)) (read_from : turn.inputs ≡ map input_kept inputs) (window : turn.window ≡ clock.window) (now : turn.now ≡ clock.now) where
  read_is : (vertex : ℕ) (entry : PlanEntry) → Contains (read_entries plan part) entry
      → shown_read plan part known turn vertex entry ≡ entry_read inputs clock.now vertex (opening_read plan part entry)
  read_is vertex entry inside =
      ap (λ (all : List InputWave). row_of (components_in plan part entry) vertex (read (input_for plan part all entry).wave (degree_of plan part entry) turn.now)) read_from
      ∙ ap (λ (t : ℕ). row_of (components_in plan part entry) vertex (read (input_for plan part (map input_kept inputs) entry).wave (degree_of plan part entry) t)) now
      ∙ input_is plan valid part inputs taken clock.now vertex entry inside

  shown_is : (vertex : ℕ) (watch : Watch) → shown_at plan part known turn watch vertex ≡ row_kept plan part writes inputs clock.now watch.mesh vertex
  shown_is vertex watch =
      ap (λ (ys : List ℤ). ys ++ flat_map (shown_read plan part known turn vertex) (filter (is_watched plan part watch) (read_entries plan part)))
      (shown_alike (shown_written plan part known turn vertex) (entry_written (write_entries plan part) writes vertex) (is_watched plan part watch) (write_entries plan part)
      (written_is plan part known writes turn is stepped vertex))
      ∙ ap (λ (ys : List ℤ). all_written plan part writes watch.mesh vertex (write_entries plan part) ++ ys)
      (shown_alike (shown_read plan part known turn vertex) (λ entry. entry_read inputs clock.now vertex (opening_read plan part entry)) (is_watched plan part watch) (read_entries plan part)
      (read_is vertex))

  vertex_is : (number : ℕ) (watch : Watch) → slice_get (watches plan part) number ≡ Some watch → nearest_vertex (points_of plan part known watch.mesh) watch.at ≡ get_or kept.vertices number 0
  vertex_is number watch at =
      let nearest : Watch → ℕ = λ watch. nearest_vertex (points_of plan part known watch.mesh) watch.at in
      sym (ap (λ (vs : List ℕ). get_or vs number 0) followed.nearest ∙ get_or-map nearest (watches plan part) number watch 0 (slice_get_within (watches plan part) number watch at)
      ∙ ap nearest (get_or_from_slice_get (watches plan part) number watch watch at))

  row_is : (number : ℕ) (watch : Watch) → slice_get (watches plan part) number ≡ Some watch → watch_row plan part known turn number watch ≡ watch_kept plan kept writes inputs clock number watch
  row_is number watch at =
      let values : shown_at plan part known turn watch (nearest_vertex (points_of plan part known watch.mesh) watch.at) ≡ row_kept plan kept.part writes inputs clock.now watch.mesh (get_or kept.vertices number 0) =
      shown_is (nearest_vertex (points_of plan part known watch.mesh) watch.at) watch
      ∙ ap (row_kept plan part writes inputs clock.now watch.mesh) (vertex_is number watch at)
      ∙ ap (λ (p : ℕ). row_kept plan p writes inputs clock.now watch.mesh (get_or kept.vertices number 0)) (sym followed.watcher) in
      let watcher : part ≡ kept.part = sym followed.watcher in
      λ i. record { part = watcher i; watch = number; window = window i; values = values i }

  pub rows_mean : watch_rows plan part known turn ≡ rows_kept plan kept writes inputs clock
  rows_mean =
      numbered_alike (λ at. watch_row plan part known turn at.0 at.1) (λ at. watch_kept plan kept writes inputs clock at.0 at.1) 0 (watches plan part)
      (λ number watch at.
      let none : 0 + number ≡ number = omega (arith) in
      ap (λ (n : ℕ). watch_row plan part known turn n watch) none ∙ row_is number watch at ∙ sym (ap (λ (n : ℕ). watch_kept plan kept writes inputs clock n watch) none))
      ∙ ap (λ (p : ℕ). map (λ at. watch_kept plan kept writes inputs clock at.0 at.1) (enumerate_from 0 (watches plan p))) (sym followed.watcher)
