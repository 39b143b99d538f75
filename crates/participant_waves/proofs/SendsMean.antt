-- What is posted by what is kept of the exchanges that are sent is what is posted of the plan.
use Rattle.std.proofs.Common.{◌≡◌, ℕ, ◌*◌, ◌<◌, Bool, true, false, nat_eq, if◌then◌else◌, List, [], ◌∷◌, length, map, get_or, slice_get, replicate, Option, None, Some, Result, Ok, Err, ℤ, pos, refl, ap, sym, ◌∙◌, arith, mul_comm}
use Rattle.std.specs.List.{flat_map}
use Rattle.std.specs.Option.{option_map_or}
use Rattle.std.proofs.lemmas.List.{ext_get_or, get_or-map, length-map}
use Rattle.std.proofs.lemmas.List.Elements.{All-contains}
use Rattle.std.proofs.lemmas.List.Quantifiers.{position-Some}
use Rattle.std.proofs.lemmas.Bool.{and_parts, eqb-true}
use Rattle.cpl_plan.proofs.Readings.{there}
use Rattle.std.proofs.lemmas.Option.{same_Some, get_or_from_slice_get}
use Rattle.std.proofs.lemmas.Simd.{map-map}
use Rattle.waveform.specs.declared.sample.Sample.{Sample}
use Rattle.waveform.proofs.Places.{no_sample}
use Rattle.cpl_plan.specs.PlanWords.{components_on, components_of}
use Rattle.cpl_plan.specs.declared.parts.PlanParts.{PlanParts}
use Rattle.cpl_plan.specs.declared.parts.PlanEntry.{PlanEntry}
use Rattle.cpl_plan.specs.declared.words.Fault.{Fault}
use Rattle.wave_coupling.specs.Posts.{Wave, sent}
use Rattle.wave_coupling.specs.Mapped.{OutOfRange, all_or_first, mapped_wave}
use Rattle.wave_coupling.specs.Noted.{Written}
use Rattle.wave_coupling.specs.Known.{Known, map_at, points_of, serves, width_of, write_entries, write_mesh}
use Rattle.wave_coupling.specs.PostedWaves.{initial_post, initial_wave, post_of, posted_samples, sample_of, values_at, write_fault, written_wave, zeros}
use Rattle.wave_laws.proofs.Stills.{map_same, slice_in}
use Rattle.wave_values.proofs.WritesFit.{no_writes}
use Rattle.participant_tables.specs.WriteKept.{WriteKept, AreSamples, field_of}
use Rattle.participant_waves.specs.Passages.{through}
use Rattle.participant_waves.specs.declared.sending.Sending.{Sending}
use Rattle.participant_waves.specs.declared.sends.Sends.{Sends}
use Rattle.participant_waves.specs.SendsStand.{IsSending, AreSends}
use Rattle.participant_waves.specs.SentWaves.{chosen, field_at, no_field, initial_sent, initial_wave_sent, samples_of, sent_or_fault, turn_sent, wave_sent, zeros_sent}
use Rattle.participant_waves.specs.Written.{AreEntries, AreWritten}
use Rattle.participant_waves.proofs.StepsKept.{many as many_kept, steps_kept, widths_kept}
use Rattle.participant_waves.proofs.ValuesFound.{same_entry, values_found}

-- of one sample all and the last are that
chosen_one : (substeps : Bool) (one : Sample) → chosen substeps (one ∷ []) ≡ one ∷ []
chosen_one true one = refl
chosen_one false one = refl

module _ (plan : PlanParts) (part : ℕ) (known : Known) where
  -- a fault is told alike
  fault_is : (sender w k x : ℕ) → sender ≡ part → (result : Result Wave OutOfRange) → write_fault plan part w k x result ≡ sent_or_fault sender w k x result
  fault_is sender w k x same result = by result ∙ ap (λ (p : ℕ). sent_or_fault p w k x result) (sym same)
    where
      by : (result : Result Wave OutOfRange) → write_fault plan part w k x result ≡ sent_or_fault part w k x result
      by (Ok wave) = refl
      by (Err at) = refl

  module _ (writes : List WriteKept) (entries : AreEntries plan part known writes) (s : Sending) (is : IsSending plan part known s) where
    abbrev pub entry_sent : PlanEntry
    entry_sent = record { data_id = s.sent.data_id; mesh = write_mesh plan part s.sent }

    pub place : (s.entry < length (write_entries plan part)) × (same_entry entry_sent (get_or (write_entries plan part) s.entry entry_sent) ≡ true)
        × ((k : ℕ) → k < s.entry → same_entry entry_sent (get_or (write_entries plan part) k entry_sent) ≡ false)
    place = position-Some (serves plan part s.sent (write_mesh plan part s.sent)) (write_entries plan part) s.entry entry_sent is.entry

    -- the entry that is kept at its place
    pub many : length writes ≡ length (write_entries plan part)
    many = many_kept plan part known writes entries

    pub kept : (e : WriteKept) × (slice_get writes s.entry ≡ Some e)
    kept = there writes s.entry (omega (arith, many, place.0))

    pub components_kept : kept.0.components ≡ s.components
    components_kept =
        let at : PlanEntry = get_or (write_entries plan part) s.entry entry_sent in
        let both = and_parts (nat_eq at.data_id entry_sent.data_id) (nat_eq at.mesh entry_sent.mesh) place.1 in
        let data_same : at.data_id ≡ s.sent.data_id = eqb-true at.data_id s.sent.data_id both.0 in
        let mesh_same : at.mesh ≡ write_mesh plan part s.sent = eqb-true at.mesh (write_mesh plan part s.sent) both.1 in
        let here : Some kept.0.components ≡ components_on plan at.data_id at.mesh =
        ap (λ (e : WriteKept). Some e.components) (sym (get_or_from_slice_get writes s.entry kept.0 kept.0 kept.1))
        ∙ sym (get_or-map (λ (e : WriteKept). Some e.components) writes s.entry kept.0 None (omega (arith, many, place.0)))
        ∙ ap (λ (os : List (Option ℕ)). get_or os s.entry None) entries.components
        ∙ get_or-map (λ (entry : PlanEntry). components_on plan entry.data_id entry.mesh) (write_entries plan part) s.entry entry_sent None place.0 in
        same_Some kept.0.components s.components
        (here ∙ ap (λ (d : ℕ). components_on plan d at.mesh) data_same ∙ ap (λ (m : ℕ). components_on plan s.sent.data_id m) mesh_same ∙ is.written)

    components_sent : components_of plan s.sent ≡ kept.0.components
    components_sent = ap (λ (o : Option ℕ). option_map_or (λ n. n) o 0) is.components ∙ sym components_kept

    -- what is written of it, of all that is written
    values_sent : (values : WriteKept → List ℤ) → map (λ e. length (values e)) writes ≡ map (width_of plan part known) (write_entries plan part)
        → values_at plan part known (write_entries plan part) entry_sent (flat_map values writes) ≡ values kept.0
    values_sent values widths =
        values_found plan part known values entry_sent (write_entries plan part) writes s.entry kept.0 widths place.0 place.1 place.2 kept.1

    field_is : field_at writes s ≡ field_of kept.0
    field_is = ap (λ (o : Option WriteKept). option_map_or field_of o no_field) kept.1

    samples_are : samples_of writes s ≡ kept.0.samples
    samples_are = ap (λ (o : Option WriteKept). option_map_or (λ e. e.samples) o []) kept.1

    -- a wave as it is posted
    pub wave_is : (w k x : ℕ) (written : List Written) (samples : Wave) → map (sample_of plan part known s.sent) written ≡ samples
        → write_fault plan part w k x
        (mapped_wave (map_at plan part s.sent.write_map) (points_of plan part known (write_mesh plan part s.sent)) (points_of plan part known s.sent.mesh)
        (posted_samples plan part s.sent.substeps (map (sample_of plan part known s.sent) written)))
        ≡ write_fault plan part w k x (through s.map (chosen s.sent.substeps samples))
    wave_is w k x written samples same =
        ap (write_fault plan part w k x)
        (is.mapped (posted_samples plan part s.sent.substeps (map (sample_of plan part known s.sent) written)) ∙ ap (λ (wave : Wave). through s.map (chosen s.sent.substeps wave)) same)

    module _ (written : List Written) (turn : AreWritten plan part known written writes) where
      pub lengths : length kept.0.samples ≡ length written
      lengths = steps_kept plan part known writes written turn kept.0 (slice_in writes s.entry kept.0 kept.1)

      -- the samples of the entry are what is written of the exchange
      sample_is : (step : ℕ) → step < length written → sample_of plan part known s.sent (get_or written step no_writes) ≡ get_or kept.0.samples step no_sample
      sample_is step within =
          let inside = slice_in writes s.entry kept.0 kept.1 in
          let times = All-contains (λ (e : WriteKept). map (λ one. one.time) e.samples ≡ map (λ one. one.time) written) writes kept.0 turn.times inside in
          let within_kept : step < length kept.0.samples = omega (arith, lengths, within) in
          let time : (get_or written step no_writes).time ≡ (get_or kept.0.samples step no_sample).time =
          sym (get_or-map (λ (one : Written). one.time) written step no_writes 0 within) ∙ ap (λ (ts : List ℕ). get_or ts step 0) (sym times)
          ∙ get_or-map (λ (one : Sample). one.time) kept.0.samples step no_sample 0 within_kept in
          let alike = (All-contains AreSamples writes kept.0 turn.shapes inside).alike step no_sample within_kept in
          let components : components_of plan s.sent ≡ (get_or kept.0.samples step no_sample).field.components = components_sent ∙ sym alike.components in
          let values : values_at plan part known (write_entries plan part) entry_sent (get_or written step no_writes).values ≡ (get_or kept.0.samples step no_sample).field.values =
          ap (values_at plan part known (write_entries plan part) entry_sent) (turn.values step no_writes within)
          ∙ values_sent (λ (e : WriteKept). (get_or e.samples step no_sample).field.values) (widths_kept plan part known writes written turn step within) in
          λ i. record { time = time i; field = record { components = components i; values = values i } }

      samples_written : map (sample_of plan part known s.sent) written ≡ kept.0.samples
      samples_written =
          let long : length (map (sample_of plan part known s.sent) written) ≡ length written = length-map written (sample_of plan part known s.sent) in
          ext_get_or no_sample (map (sample_of plan part known s.sent) written) kept.0.samples (long ∙ sym lengths)
          (λ step within.
          get_or-map (sample_of plan part known s.sent) written step no_writes no_sample (omega (arith, long, within)) ∙ sample_is step (omega (arith, long, within)))

      pub turn_wave_is : (sender w k : ℕ) → sender ≡ part
          → written_wave plan part known w k written s.exchange (slice_get plan.exchanges s.exchange) ≡ wave_sent sender w k s (samples_of writes s)
      turn_wave_is sender w k same =
          ap (written_wave plan part known w k written s.exchange) is.exchange
          ∙ wave_is w k s.exchange written kept.0.samples samples_written
          ∙ fault_is sender w k s.exchange same (through s.map (chosen s.sent.substeps kept.0.samples))
          ∙ ap (wave_sent sender w k s) (sym samples_are)

    -- all that is written at the start
    abbrev opening : Written
    opening = record { window = 0; iteration = 0; step = 0; time = 0; values = flat_map (λ (e : WriteKept). e.values) writes }

    opening_is : sample_of plan part known s.sent opening ≡ record { time = 0; field = field_of kept.0 }
    opening_is =
        let components = components_sent in
        let values = values_sent (λ (e : WriteKept). e.values) entries.widths in
        λ i. record { time = 0; field = record { components = components i; values = values i } }

    zeros_are : zeros plan part known s.sent ≡ zeros_sent s
    zeros_are =
        let components : components_of plan s.sent ≡ s.components = ap (λ (o : Option ℕ). option_map_or (λ n. n) o 0) is.components in
        let count : components_of plan s.sent * length (points_of plan part known s.sent.mesh) ≡ s.vertices * s.components =
        ap (λ (n : ℕ). n * length (points_of plan part known s.sent.mesh)) components ∙ ap (λ (n : ℕ). s.components * n) is.vertices ∙ mul_comm s.components s.vertices in
        λ i. record { time = 0; field = record { components = components i; values = replicate (count i) (pos 0) } } ∷ []

    initial_by : (sender : ℕ) (same : sender ≡ part) (b : Bool) → s.sent.initialize ≡ b
        → initial_wave plan part known opening s.exchange (Some s.sent) ≡ initial_wave_sent sender s (field_of kept.0)
    initial_by sender same true is_initial =
        ap (λ (b : Bool). if b then written_wave plan part known 0 0 (opening ∷ []) s.exchange (Some s.sent) else Ok (zeros plan part known s.sent)) is_initial
        ∙ wave_is 0 0 s.exchange (opening ∷ []) (record { time = 0; field = field_of kept.0 } ∷ []) (ap (λ (one : Sample). one ∷ []) opening_is)
        ∙ ap (λ (wave : Wave). write_fault plan part 0 0 s.exchange (through s.map wave)) (chosen_one s.sent.substeps (record { time = 0; field = field_of kept.0 }))
        ∙ fault_is sender 0 0 s.exchange same (through s.map (record { time = 0; field = field_of kept.0 } ∷ []))
        ∙ sym (ap (λ (b : Bool). if b then sent_or_fault sender 0 0 s.exchange (through s.map (record { time = 0; field = field_of kept.0 } ∷ [])) else Ok (zeros_sent s)) is_initial)
    initial_by sender same false is_initial =
        ap (λ (b : Bool). if b then written_wave plan part known 0 0 (opening ∷ []) s.exchange (Some s.sent) else Ok (zeros plan part known s.sent)) is_initial
        ∙ ap Ok zeros_are
        ∙ sym (ap (λ (b : Bool). if b then sent_or_fault sender 0 0 s.exchange (through s.map (record { time = 0; field = field_of kept.0 } ∷ [])) else Ok (zeros_sent s)) is_initial)

    pub initial_wave_is : (sender : ℕ) → sender ≡ part
        → initial_wave plan part known (record { window = 0; iteration = 0; step = 0; time = 0; values = flat_map (λ (e : WriteKept). e.values) writes }) s.exchange
        (slice_get plan.exchanges s.exchange) ≡ initial_wave_sent sender s (field_at writes s)
    initial_wave_is sender same =
        ap (initial_wave plan part known opening s.exchange) is.exchange ∙ initial_by sender same s.sent.initialize refl ∙ ap (initial_wave_sent sender s) (sym field_is)

module _ (plan : PlanParts) (part : ℕ) (known : Known) (sends : Sends) (are : AreSends plan part known sends) where
  -- over the exchanges that are sent, one for each that is kept
  each_sent : (f : ℕ → Result Wave (Option Fault)) (g : Sending → Result Wave (Option Fault))
      → ((s : Sending) → IsSending plan part known s → f s.exchange ≡ g s) → all_or_first (map f (sent plan part)) ≡ all_or_first (map g sends.sendings)
  each_sent f g same =
      ap (λ xs. all_or_first (map f xs)) (sym are.numbers) ∙ ap all_or_first (map-map f (λ (s : Sending). s.exchange) sends.sendings)
      ∙ ap all_or_first (map_same (λ (s : Sending). f s.exchange) g sends.sendings (λ s inside. same s (All-contains (IsSending plan part known) sends.sendings s are.each inside)))

  pub turn_is : (w k : ℕ) (written : List Written) (writes : List WriteKept) → AreWritten plan part known written writes
      → post_of plan part known w k written ≡ turn_sent sends w k writes
  turn_is w k written writes turn =
      each_sent (λ x. written_wave plan part known w k written x (slice_get plan.exchanges x)) (λ s. wave_sent sends.part w k s (samples_of writes s))
      (λ s is. turn_wave_is plan part known writes turn.entries s is written turn sends.part w k are.sender)

  pub initial_is : (writes : List WriteKept) → AreEntries plan part known writes
      → initial_post plan part known (flat_map (λ (e : WriteKept). e.values) writes) ≡ initial_sent sends writes
  initial_is writes entries =
      each_sent
      (λ x. initial_wave plan part known (record { window = 0; iteration = 0; step = 0; time = 0; values = flat_map (λ (e : WriteKept). e.values) writes }) x (slice_get plan.exchanges x))
      (λ s. initial_wave_sent sends.part s (field_at writes s))
      (λ s is. initial_wave_is plan part known writes entries s is sends.part are.sender)
