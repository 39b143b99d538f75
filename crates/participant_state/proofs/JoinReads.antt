-- What is kept of inputs that may come can be read from the turn's start to its latest end, at the vertices of the meshes on which it is read.
use Rattle.std.proofs.Common.{◌≡◌, ℕ, ◌*◌, ◌<◌, Bool, true, false, ◌&&◌, nat_eq, List, [], All, Contains, length, get_or, find, map, slice_get, Option, Some, None, Result, Ok, Err, refl, ap, sym, subst, ◌∙◌, arith, mul_comm, ℤ}
use Rattle.std.specs.Prelude.{option_map}
use Rattle.std.specs.List.{zip, list_all}
use Rattle.std.specs.Option.{option_map_or}
use Rattle.std.proofs.lemmas.Bool.{and_parts, eqb-true}
use Rattle.std.proofs.lemmas.List.{length-map}
use Rattle.std.proofs.lemmas.List.Elements.{All-map, Contains-get_or}
use Rattle.std.proofs.lemmas.Option.{slice_get-get_or, slice_get_within, get_or_from_slice_get, same_Some, slice_get-map}
use Rattle.std.proofs.lemmas.Slice.Zip.{get_or-zip}
use Rattle.plan_order.proofs.Orders.{none_in_nil}
use Rattle.mesh_data.specs.AnyMeshes.{vertices_of}
use Rattle.mesh_data.specs.declared.any_mesh.AnyMesh.{AnyMesh}
use Rattle.waveform.specs.declared.sample.Sample.{Sample}
use Rattle.cpl_plan.specs.PlanWords.{components_of, components_on, mesh_carries, numbers, passes, provides}
use Rattle.cpl_plan.specs.ValidPlan.{IsValidPlan}
use Rattle.cpl_plan.specs.declared.parts.PlanParts.{PlanParts}
use Rattle.cpl_plan.specs.declared.parts.Part.{Part}
use Rattle.cpl_plan.specs.declared.parts.PlanEntry.{PlanEntry}
use Rattle.cpl_plan.specs.declared.parts.MapPlan.{MapPlan}
use Rattle.cpl_plan.specs.declared.parts.Exchange.{Exchange}
use Rattle.cpl_plan.specs.declared.words.Fault.{Fault}
use Rattle.cpl_plan.proofs.Readings.{each_at, passes_at, filter_in}
use Rattle.core_laws.proofs.Steps.{all_tell}
use Rattle.core_sides.specs.declared.event.Input.{Input}
use Rattle.wave_coupling.specs.Posts.{Wave, received}
use Rattle.wave_coupling.specs.InputWave.{InputWave, no_input}
use Rattle.wave_coupling.specs.Known.{map_at, points_of, provided_by, read_entries, read_mesh, serves}
use Rattle.wave_coupling.specs.Mapped.{OutOfRange, mapped_wave}
use Rattle.wave_coupling.specs.MappedInputs.{input_for, mapped_inputs, read_wave, with_wave}
use Rattle.wave_laws.proofs.MappedWaves.{IsEach, each_made}
use Rattle.wave_values.proofs.Lists.{found_in, length_zipped, ok_same}
use Rattle.wave_values.proofs.Served.{components_joined}
use Rattle.participant_words.specs.Begun.{input_wave_of, latest_of, newest_input_time}
use Rattle.participant_words.specs.Course.{Course, known}
use Rattle.participant_words.specs.KnownByReply.{known_by}
use Rattle.participant_words.specs.Replies.{AreInputs, IsInput}
use Rattle.participant_tables.specs.ReadKept.{opening_read, opening_reads}
use Rattle.participant_tables.specs.WriteSteps.{entry_components}
use Rattle.participant_tables.proofs.Serving.{served-input}
use Rattle.participant_waves.specs.Readable.{HasRowsOf, IsReadable}
use Rattle.participant_waves.specs.declared.kept_input.KeptInput.{KeptInput}
use Rattle.participant_waves.proofs.PlanSays.{to_reader}
use Rattle.participant_state.specs.Kept.{input_kept}
use Rattle.participant_state.proofs.EntriesStand.{own_at}
use Rattle.participant_state.proofs.JoinMapped.{same_times, keeps_times, has_values, readable}

-- each sample has values for so many vertices of so many components
abbrev HasRows : (vertices components : ℕ) → Wave → Type 0
HasRows vertices components wave = All (λ (s : Sample). length s.field.values ≡ vertices * components) wave

wave_made : (plan : PlanParts) (part w k x : ℕ) (input out : InputWave) (result : Result Wave OutOfRange) → with_wave plan part w k x input result ≡ Ok out → result ≡ Ok out.wave
wave_made plan part w k x input out (Ok wave) is = let same : record input { wave = wave } ≡ out = cc in ap (λ (one : InputWave). Ok one.wave) same
wave_made plan part w k x input out (Err place) is = cc

module _ (plan : PlanParts) (part : ℕ) (c : Course) where
  -- what is read of an exchange
  record IsRead (start end : ℕ) (e : Exchange) (out : Wave) : Type 0 where
    spans : IsReadable start end out
    rows : HasRows (length (points_of plan part (known plan part c) (read_mesh plan part e))) (components_of plan e) out

  module _ (start end : ℕ) (e : Exchange) (wave out : Wave) (input : IsInput plan part c start end e wave) where
    sizes : All (λ (s : Sample). s.field.components ≡ components_of plan e) wave
    sizes = λ k d within. (input.lengths k (get_or wave k d) (slice_get-get_or wave k d within)).components

    as_it_is : HasRows (length (points_of plan part (known plan part c) e.mesh)) (components_of plan e) wave
    as_it_is = λ k d within.
        (input.lengths k (get_or wave k d) (slice_get-get_or wave k d within)).values ∙ mul_comm (components_of plan e) (length (points_of plan part (known plan part c) e.mesh))

    one_read : (o : Option MapPlan) → map_at plan part e.read_map ≡ o
        → mapped_wave o (points_of plan part (known plan part c) e.mesh) (points_of plan part (known plan part c) (read_mesh plan part e)) wave ≡ Ok out
        → IsRead start end e out
    one_read None is made =
        let same : wave ≡ out = ok_same (mapped_wave None (points_of plan part (known plan part c) e.mesh) (points_of plan part (known plan part c) (read_mesh plan part e)) wave) wave out refl made in
        let on : read_mesh plan part e ≡ e.mesh = ap (λ (o : Option MapPlan). option_map_or (λ m. m.to) o e.mesh) is in
        subst (λ (w : Wave). IsRead start end e w) same (record {
          spans = readable wave wave (same_times wave) input.is_wave.least start end input.span;
          rows = subst (λ (m : ℕ). HasRows (length (points_of plan part (known plan part c) m)) (components_of plan e) wave) (sym on) as_it_is;
        })
    one_read (Some m) is made = record {
      spans = readable wave out (keeps_times m (points_of plan part (known plan part c) e.mesh) (points_of plan part (known plan part c) (read_mesh plan part e)) wave out made) input.is_wave.least start end input.span;
      rows = has_values m (points_of plan part (known plan part c) e.mesh) (points_of plan part (known plan part c) (read_mesh plan part e)) wave out made (components_of plan e) sizes;
    }

  module _ (inputs : List Input) (come : AreInputs plan part c inputs) (outs : List InputWave)
      (made : mapped_inputs plan part (known plan part c) c.turn.window c.turn.iteration (map input_wave_of inputs) ≡ Ok outs) where
    abbrev end : ℕ
    end = latest_of plan part c.turn (newest_input_time inputs)

    abbrev read_at : ℕ × InputWave → Result InputWave (Option Fault)
    read_at at = read_wave plan part (known plan part c) c.turn.window c.turn.iteration at.0 (slice_get plan.exchanges at.0) at.1

    each : IsEach read_at (zip (received plan part) (map input_wave_of inputs)) outs
    each = each_made read_at (zip (received plan part) (map input_wave_of inputs)) outs made

    waves_many : length (map input_wave_of inputs) ≡ length (received plan part)
    waves_many = length-map inputs input_wave_of ∙ come.count

    pub outs_many : length outs ≡ length (received plan part)
    outs_many = each.many ∙ length_zipped (received plan part) (map input_wave_of inputs) waves_many

    -- the exchange at a place, and what is read of it
    record IsReadAt (j : ℕ) (out : InputWave) : Type 0 where
      x : ℕ
      e : Exchange
      listed : slice_get (received plan part) j ≡ Some x
      found : slice_get plan.exchanges x ≡ Some e
      own : e.to ≡ part
      is_read : IsRead c.turn.start end e out.wave

    read_there : (j : ℕ) (out : InputWave) → slice_get outs j ≡ Some out → IsReadAt j out
    read_there j out at =
        let within : j < length outs = slice_get_within outs j out at in
        let inside : j < length (received plan part) = omega (arith, within, outs_many) in
        let x : ℕ = get_or (received plan part) j 0 in
        let listed : slice_get (received plan part) j ≡ Some x = slice_get-get_or (received plan part) j 0 inside in
        let passed = (filter_in (λ y. passes plan.exchanges y (λ f. nat_eq f.to part)) (numbers plan.exchanges) x (Contains-get_or (received plan part) j 0 inside)).1 in
        let found = passes_at plan.exchanges x (λ f. nat_eq f.to part) passed in
        let input : Input = get_or inputs j (record { exchange = 0; source_window = 0; source_iteration = 0; wave = [] }) in
        let given : slice_get inputs j ≡ Some input =
        slice_get-get_or inputs j (record { exchange = 0; source_window = 0; source_iteration = 0; wave = [] }) (omega (arith, inside, come.count)) in
        let waves_inside : j < length (map input_wave_of inputs) = omega (arith, inside, waves_many) in
        let made_inside : j < length (zip (received plan part) (map input_wave_of inputs)) = omega (arith, within, each.many) in
        let waves_at : get_or (map input_wave_of inputs) j (input_wave_of input) ≡ input_wave_of input =
        get_or_from_slice_get (map input_wave_of inputs) j (input_wave_of input) (input_wave_of input) (slice_get-map input_wave_of inputs j ∙ ap (option_map input_wave_of) given) in
        let number_at : get_or (received plan part) j x ≡ x = get_or_from_slice_get (received plan part) j x x listed in
        let pair_is : (get_or (received plan part) j x, get_or (map input_wave_of inputs) j (input_wave_of input)) ≡ (x, input_wave_of input) = λ i. (number_at i, waves_at i) in
        let both : get_or (zip (received plan part) (map input_wave_of inputs)) j (x, input_wave_of input) ≡ (x, input_wave_of input) =
        get_or-zip (received plan part) (map input_wave_of inputs) j (x, input_wave_of input) inside waves_inside ∙ pair_is in
        let out_is : get_or outs j out ≡ out = get_or_from_slice_get outs j out out at in
        let read : read_wave plan part (known plan part c) c.turn.window c.turn.iteration x (slice_get plan.exchanges x) (input_wave_of input) ≡ Ok out =
        sym (ap read_at both) ∙ each.each j (x, input_wave_of input) out made_inside ∙ ap Ok out_is in
        let mapped = wave_made plan part c.turn.window c.turn.iteration x (input_wave_of input) out
        (mapped_wave (map_at plan part found.0.read_map) (points_of plan part (known plan part c) found.0.mesh) (points_of plan part (known plan part c) (read_mesh plan part found.0)) input.wave)
        (sym (ap (λ (o : Option Exchange). read_wave plan part (known plan part c) c.turn.window c.turn.iteration x o (input_wave_of input)) found.1) ∙ read) in
        record {
          x = x;
          e = found.0;
          listed = listed;
          found = found.1;
          own = eqb-true found.0.to part found.2;
          is_read = one_read c.turn.start end found.0 input.wave out.wave (come.each j x found.0 input listed found.1 given) (map_at plan part found.0.read_map) refl mapped;
        }

    -- what is kept of them
    module _ (kept : List KeptInput) (are : map input_kept kept ≡ outs) where
      kept_out : (j : ℕ) (input : KeptInput) → slice_get kept j ≡ Some input → slice_get outs j ≡ Some (input_kept input)
      kept_out j input at =
          ap (λ (all : List InputWave). slice_get all j) (sym are) ∙ slice_get-map input_kept kept j ∙ ap (option_map input_kept) at

      pub kept_many : length kept ≡ length (received plan part)
      kept_many = sym (length-map kept input_kept) ∙ ap (λ (all : List InputWave). length all) are ∙ outs_many

      pub kept_span : All (λ (input : KeptInput). IsReadable c.turn.start end input.wave) kept
      kept_span = λ k d within.
          (read_there k (input_kept (get_or kept k d)) (kept_out k (get_or kept k d) (slice_get-get_or kept k d within))).is_read.spans

      module _ (valid : IsValidPlan plan) where
        -- an entry's mesh is one of its own
        reads_own : (entry : PlanEntry) → Contains (read_entries plan part) entry → provides plan part entry.mesh ≡ true
        reads_own entry inside = by (slice_get plan.parts part) refl inside
          where
            by : (o : Option Part) → slice_get plan.parts part ≡ o → Contains (option_map_or (λ (p : Part). p.reads) o []) entry → provides plan part entry.mesh ≡ true
            by None at inside = absurd (none_in_nil entry inside)
            by (Some p) at inside =
                (and_parts (provides plan part entry.mesh) (mesh_carries plan entry.mesh entry.data_id)
                (all_tell (λ f. provides plan part f.mesh && mesh_carries plan f.mesh f.data_id) p.reads entry
                (each_at (λ q r. list_all (λ f. provides plan q f.mesh && mesh_carries plan f.mesh f.data_id) r.reads) plan.parts valid.participants.read_on_own_meshes part p at) inside)).0

        -- what serves an entry has rows for it
        serving_rows : (entry : PlanEntry) (x : ℕ) (e : Exchange) (out : Wave) → slice_get plan.exchanges x ≡ Some e → e.to ≡ part
            → serves plan part e (read_mesh plan part e) entry ≡ true → IsRead c.turn.start end e out
            → HasRows (length (points_of plan part (known plan part c) entry.mesh)) (entry_components plan entry) out
        serving_rows entry x e out found own is read =
            let both = and_parts (nat_eq entry.data_id e.data_id) (nat_eq entry.mesh (read_mesh plan part e)) is in
            let data_same : entry.data_id ≡ e.data_id = eqb-true entry.data_id e.data_id both.0 in
            let on : entry.mesh ≡ read_mesh plan part e = eqb-true entry.mesh (read_mesh plan part e) both.1 in
            let joins = (to_reader plan valid x e found part own).joins in
            let few : components_of plan e ≡ entry_components plan entry =
            ap (λ (o : Option ℕ). option_map_or (λ n. n) o 0)
            (components_joined plan (map_at plan part e.read_map) e.data_id e.mesh (read_mesh plan part e) joins
            ∙ ap (λ (d : ℕ). components_on plan d (read_mesh plan part e)) (sym data_same) ∙ ap (λ (m : ℕ). components_on plan entry.data_id m) (sym on)) in
            subst (λ (m : ℕ). HasRows (length (points_of plan part (known plan part c) m)) (entry_components plan entry) out) (sym on)
            (subst (λ (n : ℕ). HasRows (length (points_of plan part (known plan part c) (read_mesh plan part e))) n out) few read.rows)

        abbrev test : PlanEntry → ℕ × InputWave → Bool
        test entry at = option_map_or (λ e. serves plan part e (read_mesh plan part e) entry) (slice_get plan.exchanges at.0) false

        abbrev FitsAt : PlanEntry → Option (ℕ × InputWave) → Type 0
        FitsAt entry o = HasRows (length (points_of plan part (known plan part c) entry.mesh)) (entry_components plan entry) (option_map_or (λ (at : ℕ × InputWave). at.1) o no_input).wave

        -- the input of an entry has rows for it
        input_rows : (entry : PlanEntry) → HasRows (length (points_of plan part (known plan part c) entry.mesh)) (entry_components plan entry) (input_for plan part outs entry).wave
        input_rows entry = by (find (test entry) (zip (received plan part) outs)) refl
          where
            by : (o : Option (ℕ × InputWave)) → find (test entry) (zip (received plan part) outs) ≡ o → FitsAt entry o
            by None is = λ k d within. absurd (omega (arith, within))
            by (Some at) is =
                let inside = found_in (test entry) (zip (received plan part) outs) at is in
                let k : ℕ = inside.0.0 in
                let within : k < length (zip (received plan part) outs) = inside.0.1 in
                let long : length (zip (received plan part) outs) ≡ length (received plan part) = length_zipped (received plan part) outs outs_many in
                let pair_is : (get_or (received plan part) k at.0, get_or outs k at.1) ≡ at =
                sym (get_or-zip (received plan part) outs k at (omega (arith, within, long)) (omega (arith, within, long, outs_many))) ∙ inside.0.2 in
                let number_is : get_or (received plan part) k at.0 ≡ at.0 = ap (λ (p : ℕ × InputWave). p.0) pair_is in
                let out_is : get_or outs k at.1 ≡ at.1 = ap (λ (p : ℕ × InputWave). p.1) pair_is in
                let there = read_there k at.1 (slice_get-get_or outs k at.1 (omega (arith, within, long, outs_many)) ∙ ap Some out_is) in
                let number_listed : slice_get (received plan part) k ≡ Some at.0 =
                slice_get-get_or (received plan part) k at.0 (omega (arith, within, long)) ∙ ap Some number_is in
                let same : there.x ≡ at.0 = same_Some there.x at.0 (sym there.listed ∙ number_listed) in
                let found : slice_get plan.exchanges at.0 ≡ Some there.e = ap (slice_get plan.exchanges) (sym same) ∙ there.found in
                serving_rows entry at.0 there.e at.1.wave found there.own
                (sym (ap (λ (o : Option Exchange). option_map_or (λ e. serves plan part e (read_mesh plan part e) entry) o false) found) ∙ inside.1) there.is_read

        entry_rows : (own : List AnyMesh) → own ≡ c.own → length own ≡ length (provided_by plan part part)
            → (entry : PlanEntry) → Contains (read_entries plan part) entry → HasRowsOf own kept (opening_read plan part entry)
        entry_rows own own_is many entry inside = λ mesh input at got.
            let found = own_at plan part valid own many entry.mesh (reads_own entry inside) in
            let same : found.0 ≡ mesh = same_Some found.0 mesh (sym found.1 ∙ at) in
            let points : length (points_of plan part (known plan part c) entry.mesh) ≡ length (vertices_of mesh) =
            ap (λ (o : List AnyMesh). length (points_of plan part (known_by plan part o c.received) entry.mesh)) (sym own_is)
            ∙ ap (λ (ps : List (List ℤ)). length ps) (found.2 c.received) ∙ ap (λ (m : AnyMesh). length (vertices_of m)) same in
            let out_is : input_for plan part outs entry ≡ input_kept input =
            same_Some (input_for plan part outs entry) (input_kept input)
            (sym (served-input plan valid part entry outs inside outs_many) ∙ kept_out (opening_read plan part entry).received input got) in
            subst (λ (n : ℕ). HasRows n (entry_components plan entry) input.wave) points
            (subst (λ (one : InputWave). HasRows (length (points_of plan part (known plan part c) entry.mesh)) (entry_components plan entry) one.wave) out_is (input_rows entry))

        pub kept_rows : (own : List AnyMesh) → own ≡ c.own → length own ≡ length (provided_by plan part part)
            → All (HasRowsOf own kept) (opening_reads plan part)
        kept_rows own own_is many =
            All-map (HasRowsOf own kept) (opening_read plan part) (read_entries plan part)
            (λ k d within. entry_rows own own_is many (get_or (read_entries plan part) k d) (Contains-get_or (read_entries plan part) k d within))
