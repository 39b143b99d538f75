-- What is posted of fitting writes fits: each wave is of samples that were written, and is mapped where its exchange has a mapping.
use Rattle.std.proofs.Common.{◌≡◌, ℕ, ◌+◌, ◌-◌, ◌*◌, ◌<◌, ◌≤◌, Bool, true, false, nat_eq, if◌then◌else◌, List, [], ◌∷◌, length, get_or, drop, map, find, replicate, slice_get, Option, Some, None, Result, Ok, Err, All, AllPairs, Contains, sum_by, ℤ, pos, refl, ap, sym, subst, ◌∙◌, arith, length-drop}
use Rattle.std.specs.List.{zip}
use Rattle.std.specs.Option.{option_map_or}
use Rattle.std.proofs.lemmas.Bool.{eq-eqb}
use Rattle.std.proofs.lemmas.List.{get_or-map, get_or-drop, length-map, length-replicate}
use Rattle.std.proofs.lemmas.List.Elements.{All-drop, All-cons, All-nil, All-replicate}
use Rattle.std.proofs.lemmas.Option.{slice_get_within}
use Rattle.fixed_num.specs.Numbers.{IsValue}
use Rattle.waveform.specs.declared.sample.Sample.{Sample}
use Rattle.waveform.proofs.Places.{no_sample}
use Rattle.cpl_plan.specs.PlanWords.{components_of, numbers, passes}
use Rattle.cpl_plan.specs.ValidPlan.{IsValidPlan}
use Rattle.cpl_plan.specs.declared.parts.PlanParts.{PlanParts}
use Rattle.cpl_plan.specs.declared.parts.Part.{Part}
use Rattle.cpl_plan.specs.declared.parts.PlanEntry.{PlanEntry}
use Rattle.cpl_plan.specs.declared.parts.MapPlan.{MapPlan}
use Rattle.cpl_plan.specs.declared.parts.Exchange.{Exchange}
use Rattle.cpl_plan.specs.declared.words.Fault.{Fault}
use Rattle.cpl_plan.proofs.Readings.{at_passes, in_filter, in_numbers}
use Rattle.wave_coupling.specs.Posts.{Wave, Post, sent, wave_of}
use Rattle.wave_coupling.specs.Known.{Known, points_of, write_entries, write_mesh, map_at, width_of}
use Rattle.wave_coupling.specs.Mapped.{OutOfRange, mapped_wave}
use Rattle.wave_coupling.specs.Noted.{Written}
use Rattle.wave_coupling.specs.PostedWaves.{sample_of, posted_samples, write_fault, written_wave, post_of, zeros, initial_wave, initial_post}
use Rattle.wave_laws.specs.Fitting.{AreValues, IsSampleOf, IsInitialWave, IsPostedWave}
use Rattle.wave_laws.proofs.MappedWaves.{each_made, wave_mapped, posted_follows, initial_follows}
use Rattle.wave_laws.proofs.WrittenFits.{values_written}
use Rattle.wave_values.proofs.Lists.{found_made, ok_same}
use Rattle.wave_values.proofs.Served.{Joins, written_for, start_is, components_joined}

-- what the steps of a window have written: from its start to an end, so many values each
pub record AreSteps (start end count : ℕ) (written : List Written) : Type 0 where
  pub least : 1 ≤ length written
  pub most : length written ≤ 1024
  pub rising : AllPairs (λ (one later : Written). one.time < later.time) written
  pub after : All (λ (one : Written). start < one.time) written
  pub at_end : (d : Written) → (get_or written (length written - 1) d).time ≡ end
  pub values : All (λ (one : Written). AreValues count one.values) written

pub no_writes : Written
no_writes = record { window = 0; iteration = 0; step = 0; time = 0; values = [] }

zero_value : IsValue (pos 0)
zero_value = omega (arith)

-- the last sample alone
last_fits : (start end components count : ℕ) (wave : Wave) → IsPostedWave start end components count wave → IsPostedWave start end components count (drop (length wave - 1) wave)
last_fits start end components count wave is =
    let one : length (drop (length wave - 1) wave) ≡ 1 = omega (arith, is.least, length-drop (length wave - 1) wave) in
    let zero_on : length (drop (length wave - 1) wave) - 1 ≡ 0 = omega (arith, one) in
    let here : length wave - 1 + 0 ≡ length wave - 1 = omega (arith) in
    record {
      least = omega (arith, one);
      most = omega (arith, one);
      rising = λ i j d less within. absurd (omega (arith, less, within, one));
      after_start = All-drop (λ (s : Sample). start < s.time) (length wave - 1) wave is.after_start;
      at_end =
          get_or-map (λ (s : Sample). s.time) (drop (length wave - 1) wave) (length (drop (length wave - 1) wave) - 1) no_sample 0 (omega (arith, one))
          ∙ ap (λ (k : ℕ). (get_or (drop (length wave - 1) wave) k no_sample).time) zero_on
          ∙ ap (λ (s : Sample). s.time) (get_or-drop (length wave - 1) wave 0 no_sample)
          ∙ ap (λ (k : ℕ). (get_or wave k no_sample).time) here
          ∙ sym (get_or-map (λ (s : Sample). s.time) wave (length wave - 1) no_sample 0 (omega (arith, is.least)))
          ∙ is.at_end;
      samples = All-drop (IsSampleOf components count) (length wave - 1) wave is.samples;
    }

module _ (plan : PlanParts) (valid : IsValidPlan plan) (known : Known) (x : ℕ) (e : Exchange) (at : slice_get plan.exchanges x ≡ Some e) where
  -- the entry that an exchange is written to
  abbrev entry_of : (part : ℕ) → PlanEntry
  entry_of part = record { data_id = e.data_id; mesh = write_mesh plan part e }

  abbrev IsWrittenBy : (part : ℕ) → Type 0
  IsWrittenBy part = Contains (write_entries plan part) (entry_of part) × Joins plan (map_at plan part e.write_map) (write_mesh plan part e) e.mesh

  written_by_sender : IsWrittenBy e.from
  written_by_sender =
      let found = written_for plan valid x e at in
      let entry : PlanEntry = found.2.0 in
      let mesh_same : entry.mesh ≡ write_mesh plan e.from e = sym (start_is plan (map_at plan e.from e.write_map) entry.mesh e.mesh found.2.3) in
      let entries : List PlanEntry = found.0.writes in
      let listed : Contains entries (entry_of e.from) =
      subst (λ (m : ℕ). Contains entries (record { data_id = e.data_id; mesh = m })) mesh_same
      (subst (λ (d : ℕ). Contains entries (record { data_id = d; mesh = entry.mesh })) found.2.2 found.2.1) in (
        subst (λ (o : Option Part). Contains (option_map_or (λ (p : Part). p.writes) o []) (entry_of e.from)) (sym found.1) listed,
        subst (λ (m : ℕ). Joins plan (map_at plan e.from e.write_map) m e.mesh) mesh_same found.2.3,
      )

  module _ (part : ℕ) (sends : e.from ≡ part) where
    is_written_by : IsWrittenBy part
    is_written_by = subst (λ (p : ℕ). IsWrittenBy p) sends written_by_sender

    -- the exchange is one of those that the participant sends
    pub sent_in : Contains (sent plan part) x
    sent_in =
        in_filter (λ y. passes plan.exchanges y (λ f. nat_eq f.from part)) (numbers plan.exchanges) x (in_numbers plan.exchanges x (slice_get_within plan.exchanges x e at))
        (at_passes plan.exchanges x (λ f. nat_eq f.from part) e at (eq-eqb e.from part sends))

    width_is : width_of plan part known (entry_of part) ≡ components_of plan e * length (points_of plan part known (write_mesh plan part e))
    width_is =
        ap (λ (o : Option ℕ). option_map_or (λ n. n) o 0 * length (points_of plan part known (write_mesh plan part e)))
        (components_joined plan (map_at plan part e.write_map) e.data_id (write_mesh plan part e) e.mesh is_written_by.1)

    one_fits : (one : Written) → AreValues (sum_by (width_of plan part known) (write_entries plan part)) one.values
        → IsSampleOf (components_of plan e) (width_of plan part known (entry_of part)) (sample_of plan part known e one)
    one_fits one is =
        let values = values_written plan part known (write_entries plan part) (entry_of part) one.values is_written_by.0 (sym is.in_all) is.each in
        record { at_vertex = refl; in_all = values.in_all; values = values.each }

    samples_fit : (start end : ℕ) (written : List Written) → AreSteps start end (sum_by (width_of plan part known) (write_entries plan part)) written
        → IsPostedWave start end (components_of plan e) (width_of plan part known (entry_of part)) (map (sample_of plan part known e) written)
    samples_fit start end written is =
        let many : length (map (sample_of plan part known e) written) ≡ length written = length-map written (sample_of plan part known e) in
        let each : (k : ℕ) (d : Sample) → k < length written → get_or (map (sample_of plan part known e) written) k d ≡ sample_of plan part known e (get_or written k no_writes) =
        λ k d within. get_or-map (sample_of plan part known e) written k no_writes d within in
        let last : length written - 1 < length written = omega (arith, is.least) in
        let place : length (map (sample_of plan part known e) written) - 1 ≡ length written - 1 = omega (arith, many) in
        record {
          least = omega (arith, many, is.least);
          most = omega (arith, many, is.most);
          rising = λ i j d less within.
              let later : j < length written = omega (arith, within, many) in
              let sooner : i < length written = omega (arith, less, later) in
              let one : (get_or (map (sample_of plan part known e) written) i d).time ≡ (get_or written i no_writes).time = ap (λ (s : Sample). s.time) (each i d sooner) in
              let other : (get_or (map (sample_of plan part known e) written) j d).time ≡ (get_or written j no_writes).time = ap (λ (s : Sample). s.time) (each j d later) in
              omega (arith, one, other, is.rising i j no_writes less later);
          after_start = λ k d within.
              let inside : k < length written = omega (arith, within, many) in
              let one : (get_or (map (sample_of plan part known e) written) k d).time ≡ (get_or written k no_writes).time = ap (λ (s : Sample). s.time) (each k d inside) in
              omega (arith, one, is.after k no_writes inside);
          at_end =
              get_or-map (λ (s : Sample). s.time) (map (sample_of plan part known e) written) (length (map (sample_of plan part known e) written) - 1) no_sample 0 (omega (arith, many, is.least))
              ∙ ap (λ (k : ℕ). (get_or (map (sample_of plan part known e) written) k no_sample).time) place
              ∙ ap (λ (s : Sample). s.time) (each (length written - 1) no_sample last)
              ∙ is.at_end no_writes;
          samples = λ k d within.
              let inside : k < length written = omega (arith, within, many) in
              subst (λ (s : Sample). IsSampleOf (components_of plan e) (width_of plan part known (entry_of part)) s) (sym (each k d inside))
              (one_fits (get_or written k no_writes) (is.values k no_writes inside));
        }

    fault_free : (w k : ℕ) (result : Result Wave OutOfRange) (out : Wave) → write_fault plan part w k x result ≡ Ok out → result ≡ Ok out
    fault_free w k (Ok wave) out is = let same : wave ≡ out = cc in ap Ok same
    fault_free w k (Err place) out is = cc

    module _ (start end : ℕ) where
      -- mapped, or as it is
      posted_by : (o : Option MapPlan) → Joins plan o (write_mesh plan part e) e.mesh → (samples out : Wave)
          → mapped_wave o (points_of plan part known (write_mesh plan part e)) (points_of plan part known e.mesh) samples ≡ Ok out
          → IsPostedWave start end (components_of plan e) (width_of plan part known (entry_of part)) samples
          → IsPostedWave start end (components_of plan e) (components_of plan e * length (points_of plan part known e.mesh)) out
      posted_by None joins samples out made is =
          subst (λ (n : ℕ). IsPostedWave start end (components_of plan e) n out) (width_is ∙ ap (λ (m : ℕ). components_of plan e * length (points_of plan part known m)) joins)
          (subst (λ (wave : Wave). IsPostedWave start end (components_of plan e) (width_of plan part known (entry_of part)) wave) (ok_same (mapped_wave None (points_of plan part known (write_mesh plan part e)) (points_of plan part known e.mesh) samples) samples out refl made) is)
      posted_by (Some m) joins samples out made is =
          posted_follows (components_of plan e) (components_of plan e * length (points_of plan part known e.mesh)) samples out
          (wave_mapped m (points_of plan part known (write_mesh plan part e)) (points_of plan part known e.mesh) (components_of plan e)
          (width_of plan part known (entry_of part)) samples out is.samples made)
          start end (width_of plan part known (entry_of part)) is

      chosen_fit : (substeps : Bool) (samples : Wave) → IsPostedWave start end (components_of plan e) (width_of plan part known (entry_of part)) samples
          → IsPostedWave start end (components_of plan e) (width_of plan part known (entry_of part)) (posted_samples plan part substeps samples)
      chosen_fit true samples is = is
      chosen_fit false samples is = last_fits start end (components_of plan e) (width_of plan part known (entry_of part)) samples is

      -- the wave of an exchange in a post
      wave_fits : (w k : ℕ) (written : List Written) (out : Wave) → AreSteps start end (sum_by (width_of plan part known) (write_entries plan part)) written
          → written_wave plan part known w k written x (Some e) ≡ Ok out
          → IsPostedWave start end (components_of plan e) (components_of plan e * length (points_of plan part known e.mesh)) out
      wave_fits w k written out is made =
          let samples : Wave = map (sample_of plan part known e) written in
          posted_by (map_at plan part e.write_map) is_written_by.1 (posted_samples plan part e.substeps samples) out
          (fault_free w k (mapped_wave (map_at plan part e.write_map) (points_of plan part known (write_mesh plan part e)) (points_of plan part known e.mesh)
          (posted_samples plan part e.substeps samples)) out made)
          (chosen_fit e.substeps samples (samples_fit start end written is))

      pub post_fits : (w k : ℕ) (written : List Written) (post : Post) → AreSteps start end (sum_by (width_of plan part known) (write_entries plan part)) written
          → post_of plan part known w k written ≡ Ok post
          → IsPostedWave start end (components_of plan e) (components_of plan e * length (points_of plan part known e.mesh)) (wave_of plan e x post)
      post_fits w k written post is made =
          let f : ℕ → Result Wave (Option Fault) = λ y. written_wave plan part known w k written y (slice_get plan.exchanges y) in
          let found = found_made f (sent plan part) post x [] (each_made f (sent plan part) post made) sent_in in
          subst (λ (p : ℕ). IsPostedWave start end (components_of plan e) (components_of plan e * length (points_of plan part known e.mesh))
          (option_map_or (λ (pair : ℕ × Wave). pair.1) (find (λ (pair : ℕ × Wave). nat_eq pair.0 x) (zip (sent plan p) post)) [])) (sym sends)
          (wave_fits w k written (option_map_or (λ (pair : ℕ × Wave). pair.1) (find (λ (pair : ℕ × Wave). nat_eq pair.0 x) (zip (sent plan part) post)) []) is
          (sym (ap (λ (o : Option Exchange). written_wave plan part known w k written x o) at) ∙ found))

    -- the first samples
    started_by : (o : Option MapPlan) → Joins plan o (write_mesh plan part e) e.mesh → (samples out : Wave)
        → mapped_wave o (points_of plan part known (write_mesh plan part e)) (points_of plan part known e.mesh) samples ≡ Ok out
        → IsInitialWave (components_of plan e) (width_of plan part known (entry_of part)) samples
        → IsInitialWave (components_of plan e) (components_of plan e * length (points_of plan part known e.mesh)) out
    started_by None joins samples out made is =
        subst (λ (n : ℕ). IsInitialWave (components_of plan e) n out) (width_is ∙ ap (λ (m : ℕ). components_of plan e * length (points_of plan part known m)) joins)
        (subst (λ (wave : Wave). IsInitialWave (components_of plan e) (width_of plan part known (entry_of part)) wave) (ok_same (mapped_wave None (points_of plan part known (write_mesh plan part e)) (points_of plan part known e.mesh) samples) samples out refl made) is)
    started_by (Some m) joins samples out made is =
        initial_follows (components_of plan e) (components_of plan e * length (points_of plan part known e.mesh)) samples out
        (wave_mapped m (points_of plan part known (write_mesh plan part e)) (points_of plan part known e.mesh) (components_of plan e)
        (width_of plan part known (entry_of part)) samples out is.samples made)
        (width_of plan part known (entry_of part)) is

    module _ (one : Written) (at_start : one.time ≡ 0) (is : AreValues (sum_by (width_of plan part known) (write_entries plan part)) one.values) where
      first_chosen : (substeps : Bool) → IsInitialWave (components_of plan e) (width_of plan part known (entry_of part)) (posted_samples plan part substeps (sample_of plan part known e one ∷ []))
      first_chosen true = record {
        one = refl;
        at_start = at_start;
        samples = All-cons (IsSampleOf (components_of plan e) (width_of plan part known (entry_of part))) (sample_of plan part known e one) [] (one_fits one is)
            (All-nil (IsSampleOf (components_of plan e) (width_of plan part known (entry_of part))));
      }
      first_chosen false = record {
        one = refl;
        at_start = at_start;
        samples = All-cons (IsSampleOf (components_of plan e) (width_of plan part known (entry_of part))) (sample_of plan part known e one) [] (one_fits one is)
            (All-nil (IsSampleOf (components_of plan e) (width_of plan part known (entry_of part))));
      }

      start_written : (out : Wave) → written_wave plan part known 0 0 (one ∷ []) x (Some e) ≡ Ok out
          → IsInitialWave (components_of plan e) (components_of plan e * length (points_of plan part known e.mesh)) out
      start_written out made =
          started_by (map_at plan part e.write_map) is_written_by.1 (posted_samples plan part e.substeps (sample_of plan part known e one ∷ [])) out
          (fault_free 0 0 (mapped_wave (map_at plan part e.write_map) (points_of plan part known (write_mesh plan part e)) (points_of plan part known e.mesh)
          (posted_samples plan part e.substeps (sample_of plan part known e one ∷ []))) out made)
          (first_chosen e.substeps)

      zeros_fit : IsInitialWave (components_of plan e) (components_of plan e * length (points_of plan part known e.mesh)) (zeros plan part known e)
      zeros_fit =
          let n : ℕ = components_of plan e * length (points_of plan part known e.mesh) in
          let zero_sample : Sample = record { time = 0; field = record { components = components_of plan e; values = replicate n (pos 0) } } in
          record {
            one = refl;
            at_start = refl;
            samples = All-cons (IsSampleOf (components_of plan e) n) zero_sample []
                (record { at_vertex = refl; in_all = length-replicate n (pos 0); values = All-replicate IsValue n (pos 0) zero_value })
                (All-nil (IsSampleOf (components_of plan e) n));
          }

      start_is_zeros : (out : Wave) → (if false then written_wave plan part known 0 0 (one ∷ []) x (Some e) else Ok (zeros plan part known e)) ≡ Ok out → zeros plan part known e ≡ out
      start_is_zeros out made = ok_same (if false then written_wave plan part known 0 0 (one ∷ []) x (Some e) else Ok (zeros plan part known e)) (zeros plan part known e) out refl made

      start_by : (initialize : Bool) (out : Wave) → (if initialize then written_wave plan part known 0 0 (one ∷ []) x (Some e) else Ok (zeros plan part known e)) ≡ Ok out
          → IsInitialWave (components_of plan e) (components_of plan e * length (points_of plan part known e.mesh)) out
      start_by true out made = start_written out made
      start_by false out made =
          subst (λ (wave : Wave). IsInitialWave (components_of plan e) (components_of plan e * length (points_of plan part known e.mesh)) wave) (start_is_zeros out made) zeros_fit

    pub first_fits : (values : List ℤ) (post : Post) → AreValues (sum_by (width_of plan part known) (write_entries plan part)) values
        → initial_post plan part known values ≡ Ok post
        → IsInitialWave (components_of plan e) (components_of plan e * length (points_of plan part known e.mesh)) (wave_of plan e x post)
    first_fits values post is made =
        let one : Written = record { window = 0; iteration = 0; step = 0; time = 0; values = values } in
        let f : ℕ → Result Wave (Option Fault) = λ y. initial_wave plan part known one y (slice_get plan.exchanges y) in
        let found = found_made f (sent plan part) post x [] (each_made f (sent plan part) post made) sent_in in
        subst (λ (p : ℕ). IsInitialWave (components_of plan e) (components_of plan e * length (points_of plan part known e.mesh))
        (option_map_or (λ (pair : ℕ × Wave). pair.1) (find (λ (pair : ℕ × Wave). nat_eq pair.0 x) (zip (sent plan p) post)) [])) (sym sends)
        (start_by one refl is e.initialize (option_map_or (λ (pair : ℕ × Wave). pair.1) (find (λ (pair : ℕ × Wave). nat_eq pair.0 x) (zip (sent plan part) post)) [])
        (sym (ap (λ (o : Option Exchange). initial_wave plan part known one x o) at) ∙ found))
