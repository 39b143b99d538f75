-- What is read of fitting inputs fits: each read entry has an input, which is mapped where its exchange has a mapping.
use Rattle.std.proofs.Common.{◌≡◌, ℕ, ◌*◌, Bool, true, false, ◌&&◌, nat_eq, List, [], length, get_or, find, slice_get, Option, Some, None, Result, Ok, Err, Contains, refl, ap, sym, subst, ◌∙◌, arith}
use Rattle.std.specs.List.{zip, list_all}
use Rattle.std.specs.Option.{option_map_or}
use Rattle.std.proofs.lemmas.Bool.{and_parts, and_from, eqb-true, eq-eqb, false≢true}
use Rattle.std.proofs.lemmas.List.Elements.{Contains-get_or}
use Rattle.std.proofs.lemmas.Option.{same_Some}
use Rattle.plan_order.proofs.Orders.{none_in_nil}
use Rattle.cpl_plan.specs.PlanWords.{are_distinct, components_of, components_on, data_of, feeders, numbers, passes}
use Rattle.cpl_plan.specs.ValidPlan.{IsValidPlan}
use Rattle.cpl_plan.specs.declared.parts.PlanParts.{PlanParts}
use Rattle.cpl_plan.specs.declared.parts.Part.{Part}
use Rattle.cpl_plan.specs.declared.parts.PlanEntry.{PlanEntry}
use Rattle.cpl_plan.specs.declared.parts.MapPlan.{MapPlan}
use Rattle.cpl_plan.specs.declared.parts.Exchange.{Exchange}
use Rattle.cpl_plan.specs.declared.words.Fault.{Fault}
use Rattle.cpl_plan.proofs.Readings.{each_at, passes_at, at_passes, filter_in, in_filter}
use Rattle.core_laws.proofs.Steps.{all_tell}
use Rattle.wave_coupling.specs.Posts.{Wave, received}
use Rattle.wave_coupling.specs.InputWave.{InputWave, no_input}
use Rattle.wave_coupling.specs.Known.{Known, points_of, read_entries, read_mesh, serves, map_at, width_of}
use Rattle.wave_coupling.specs.Mapped.{OutOfRange, mapped_wave}
use Rattle.wave_coupling.specs.MappedInputs.{with_wave, read_wave, mapped_inputs, input_for}
use Rattle.wave_laws.specs.Fitting.{IsInputWave}
use Rattle.wave_laws.proofs.MappedWaves.{each_made, wave_mapped, input_follows}
use Rattle.wave_laws.proofs.ReadValues.{not_found}
use Rattle.wave_values.proofs.Lists.{found_in, ok_same, one_number, beside, made_beside, zipped_left, length_zipped}
use Rattle.wave_values.proofs.Served.{Joins, read_for, end_is, components_joined}

module _ (plan : PlanParts) (valid : IsValidPlan plan) (part : ℕ) where
  -- what the reader reads of an exchange, and how it is mapped
  abbrev IsReadBy : Exchange → (reader : ℕ) → Type 0
  IsReadBy e reader =
      (p : Part) × (slice_get plan.parts reader ≡ Some p)
      × ((entry : PlanEntry) × Contains p.reads entry × (entry.data_id ≡ e.data_id) × Joins plan (map_at plan reader e.read_map) e.mesh entry.mesh)

  read_by : (x : ℕ) (e : Exchange) → slice_get plan.exchanges x ≡ Some e → e.to ≡ part → IsReadBy e part
  read_by x e at reads = subst (λ (p : ℕ). IsReadBy e p) reads (read_for plan valid x e at)

  -- an entry that an exchange serves
  serving : (x : ℕ) (e : Exchange) (entry : PlanEntry) → slice_get plan.exchanges x ≡ Some e → e.to ≡ part → serves plan part e (read_mesh plan part e) entry ≡ true
      → (entry.data_id ≡ e.data_id) × Joins plan (map_at plan part e.read_map) e.mesh entry.mesh
  serving x e entry at reads is =
      let both = and_parts (nat_eq entry.data_id e.data_id) (nat_eq entry.mesh (read_mesh plan part e)) is in
      let by = read_by x e at reads in
      let there : read_mesh plan part e ≡ by.2.0.mesh = end_is plan (map_at plan part e.read_map) e.mesh by.2.0.mesh by.2.3 in
      let same : by.2.0.mesh ≡ entry.mesh = sym (eqb-true entry.mesh (read_mesh plan part e) both.1 ∙ there) in
      (eqb-true entry.data_id e.data_id both.0, subst (λ (m : ℕ). Joins plan (map_at plan part e.read_map) e.mesh m) same by.2.3)

  -- each read entry is served by an exchange
  served : (entry : PlanEntry) → Contains (read_entries plan part) entry
      → (x : ℕ) × Contains (received plan part) x × (passes plan.exchanges x (λ e. serves plan part e (read_mesh plan part e) entry) ≡ true)
  served entry inside = of (slice_get plan.parts part) refl inside
    where
      of : (o : Option Part) → slice_get plan.parts part ≡ o → Contains (option_map_or (λ (p : Part). p.reads) o []) entry
          → (x : ℕ) × Contains (received plan part) x × (passes plan.exchanges x (λ e. serves plan part e (read_mesh plan part e) entry) ≡ true)
      of None at inside = absurd (none_in_nil entry inside)
      of (Some p) at inside =
          let fed = all_tell (λ (f : PlanEntry). nat_eq (length (feeders plan part f.data_id)) 1) p.reads entry
          (each_at (λ q r. list_all (λ f. nat_eq (length (feeders plan q f.data_id)) 1) r.reads) plan.parts valid.participants.fed_once part p at) inside in
          let many : length (feeders plan part entry.data_id) ≡ 1 = eqb-true (length (feeders plan part entry.data_id)) 1 fed in
          let x : ℕ = get_or (feeders plan part entry.data_id) 0 0 in
          let own = filter_in (λ y. passes plan.exchanges y (λ e. nat_eq e.to part && nat_eq e.data_id entry.data_id)) (numbers plan.exchanges) x
          (Contains-get_or (feeders plan part entry.data_id) 0 0 (omega (arith, many))) in
          let found = passes_at plan.exchanges x (λ e. nat_eq e.to part && nat_eq e.data_id entry.data_id) own.1 in
          let e : Exchange = found.0 in
          let both = and_parts (nat_eq e.to part) (nat_eq e.data_id entry.data_id) found.2 in
          let reads : e.to ≡ part = eqb-true e.to part both.0 in
          let data_same : e.data_id ≡ entry.data_id = eqb-true e.data_id entry.data_id both.1 in
          let by = read_by x e found.1 reads in
          let one : by.0 ≡ p = same_Some by.0 p (sym by.1 ∙ at) in
          let listed : Contains p.reads by.2.0 = subst (λ (q : Part). Contains q.reads by.2.0) one by.2.1 in
          let apart : are_distinct nat_eq (data_of p.reads) ≡ true = each_at (λ _ r. are_distinct nat_eq (data_of r.reads)) plan.parts valid.participants.read_once part p at in
          let same : by.2.0 ≡ entry = one_number (λ (f : PlanEntry). f.data_id) p.reads by.2.0 entry apart listed inside (by.2.2 ∙ data_same) in
          let there : entry.mesh ≡ read_mesh plan part e = sym (end_is plan (map_at plan part e.read_map) e.mesh by.2.0.mesh by.2.3 ∙ ap (λ (f : PlanEntry). f.mesh) same) in (
            x,
            in_filter (λ y. passes plan.exchanges y (λ f. nat_eq f.to part)) (numbers plan.exchanges) x own.0 (at_passes plan.exchanges x (λ f. nat_eq f.to part) e found.1 both.0),
            at_passes plan.exchanges x (λ f. serves plan part f (read_mesh plan part f) entry) e found.1
                (and_from (nat_eq entry.data_id e.data_id) (nat_eq entry.mesh (read_mesh plan part e)) (eq-eqb entry.data_id e.data_id (sym data_same)) (eq-eqb entry.mesh (read_mesh plan part e) there)),
          )

  -- there are as many mapped inputs as inputs
  as_many : (known : Known) (w k : ℕ) (waves inputs : List InputWave) → length waves ≡ length (received plan part) → mapped_inputs plan part known w k waves ≡ Ok inputs
      → length inputs ≡ length (received plan part)
  as_many known w k waves inputs each made =
      let all = each_made (λ (pair : ℕ × InputWave). read_wave plan part known w k pair.0 (slice_get plan.exchanges pair.0) pair.1) (zip (received plan part) waves) inputs made in
      all.many ∙ length_zipped (received plan part) waves each

  -- an exchange that is received is read by the participant
  pub reader_is : (x : ℕ) (e : Exchange) → slice_get plan.exchanges x ≡ Some e → Contains (received plan part) x → e.to ≡ part
  reader_is x e at inside =
      let own = filter_in (λ y. passes plan.exchanges y (λ f. nat_eq f.to part)) (numbers plan.exchanges) x inside in
      let found = passes_at plan.exchanges x (λ f. nat_eq f.to part) own.1 in
      let same : found.0 ≡ e = same_Some found.0 e (sym found.1 ∙ at) in
      subst (λ (f : Exchange). f.to ≡ part) same (eqb-true found.0.to part found.2)

  module _ (known : Known) (vertices : ℕ → ℕ)
      (knows : (x : ℕ) (e : Exchange) → slice_get plan.exchanges x ≡ Some e → e.to ≡ part → length (points_of plan part known e.mesh) ≡ vertices e.mesh)
      (start latest w k : ℕ) (waves inputs : List InputWave) (each : length waves ≡ length (received plan part))
      (fit : (x : ℕ) (e : Exchange) (input : InputWave) → Contains (zip (received plan part) waves) (x, input) → slice_get plan.exchanges x ≡ Some e
      → IsInputWave start latest (components_of plan e) (components_of plan e * vertices e.mesh) input.wave)
      (made : mapped_inputs plan part known w k waves ≡ Ok inputs) (entry : PlanEntry) where
    -- the components of an entry
    abbrev entry_components : ℕ
    entry_components = option_map_or (λ n. n) (components_on plan entry.data_id entry.mesh) 0

    abbrev Fits : Wave → Type 0
    Fits wave = IsInputWave start latest entry_components (width_of plan part known entry) wave

    wave_made : (x : ℕ) (input out : InputWave) (result : Result Wave OutOfRange) → with_wave plan part w k x input result ≡ Ok out → result ≡ Ok out.wave
    wave_made x input out (Ok wave) is = let same : record input { wave = wave } ≡ out = cc in ap (λ (one : InputWave). Ok one.wave) same
    wave_made x input out (Err place) is = cc

    -- mapped, or as it is
    read_by_map : (e : Exchange) (o : Option MapPlan) → entry.data_id ≡ e.data_id → Joins plan o e.mesh entry.mesh → (wave out : Wave)
        → length (points_of plan part known e.mesh) ≡ vertices e.mesh → entry.mesh ≡ read_mesh plan part e
        → mapped_wave o (points_of plan part known e.mesh) (points_of plan part known (read_mesh plan part e)) wave ≡ Ok out
        → IsInputWave start latest (components_of plan e) (components_of plan e * vertices e.mesh) wave → Fits out
    read_by_map e o data_same joins wave out points there made is =
        let few : components_of plan e ≡ entry_components =
        ap (λ (c : Option ℕ). option_map_or (λ n. n) c 0)
        (components_joined plan o e.data_id e.mesh entry.mesh joins ∙ ap (λ (d : ℕ). components_on plan d entry.mesh) (sym data_same)) in
        by o few joins (subst (λ (m : ℕ). mapped_wave o (points_of plan part known e.mesh) (points_of plan part known m) wave ≡ Ok out) (sym there) made)
      where
        by : (o : Option MapPlan) → components_of plan e ≡ entry_components → Joins plan o e.mesh entry.mesh
            → mapped_wave o (points_of plan part known e.mesh) (points_of plan part known entry.mesh) wave ≡ Ok out → Fits out
        by None few joins made =
            let many : components_of plan e * vertices e.mesh ≡ width_of plan part known entry =
            ap (λ (n : ℕ). components_of plan e * n) (sym points) ∙ ap (λ (m : ℕ). components_of plan e * length (points_of plan part known m)) joins
            ∙ ap (λ (c : ℕ). c * length (points_of plan part known entry.mesh)) few in
            subst (λ (c : ℕ). IsInputWave start latest c (width_of plan part known entry) out) few
            (subst (λ (n : ℕ). IsInputWave start latest (components_of plan e) n out) many
            (subst (λ (one : Wave). IsInputWave start latest (components_of plan e) (components_of plan e * vertices e.mesh) one) (ok_same (mapped_wave None (points_of plan part known e.mesh) (points_of plan part known entry.mesh) wave) wave out refl made) is))
        by (Some m) few joins made =
            subst (λ (c : ℕ). IsInputWave start latest c (c * length (points_of plan part known entry.mesh)) out) few
            (input_follows (components_of plan e) (components_of plan e * length (points_of plan part known entry.mesh)) wave out
            (wave_mapped m (points_of plan part known e.mesh) (points_of plan part known entry.mesh) (components_of plan e) (components_of plan e * vertices e.mesh) wave out is.samples made)
            start latest (components_of plan e * vertices e.mesh) is)

    -- what serves an entry fits it
    serving_fits : (x : ℕ) (input : InputWave) → Contains (zip (received plan part) inputs) (x, input)
        → passes plan.exchanges x (λ e. serves plan part e (read_mesh plan part e) entry) ≡ true → Fits input.wave
    serving_fits x input inside test =
        let found = passes_at plan.exchanges x (λ e. serves plan part e (read_mesh plan part e) entry) test in
        let e : Exchange = found.0 in
        let f : ℕ × InputWave → Result InputWave (Option Fault) = λ pair. read_wave plan part known w k pair.0 (slice_get plan.exchanges pair.0) pair.1 in
        let from = made_beside f (received plan part) waves inputs each (each_made f (zip (received plan part) waves) inputs made) x input inside in
        let reads : e.to ≡ part = reader_is x e found.1 (zipped_left (received plan part) inputs x input inside) in
        let serve = serving x e entry found.1 reads found.2 in
        let both = and_parts (nat_eq entry.data_id e.data_id) (nat_eq entry.mesh (read_mesh plan part e)) found.2 in
        read_by_map e (map_at plan part e.read_map) serve.0 serve.1 from.0.wave input.wave (knows x e found.1 reads) (eqb-true entry.mesh (read_mesh plan part e) both.1)
        (wave_made x from.0 input (mapped_wave (map_at plan part e.read_map) (points_of plan part known e.mesh) (points_of plan part known (read_mesh plan part e)) from.0.wave)
        (sym (ap (λ (o : Option Exchange). read_wave plan part known w k x o from.0) found.1) ∙ from.2))
        (fit x e from.0 from.1 found.1)

    pub entry_fits : Contains (read_entries plan part) entry → Fits (input_for plan part inputs entry).wave
    entry_fits inside = by (find test (zip (received plan part) inputs)) refl
      where
        test : ℕ × InputWave → Bool
        test pair = option_map_or (λ e. serves plan part e (read_mesh plan part e) entry) (slice_get plan.exchanges pair.0) false

        by : (o : Option (ℕ × InputWave)) → find test (zip (received plan part) inputs) ≡ o → Fits (option_map_or (λ (pair : ℕ × InputWave). pair.1) o no_input).wave
        by None is =
            let own = served entry inside in
            let there = beside (received plan part) inputs own.0 (as_many known w k waves inputs each made) own.1 in
            absurd (false≢true (sym (not_found test (zip (received plan part) inputs) (own.0, there.0) is there.1) ∙ own.2))
        by (Some pair) is =
            let found = found_in test (zip (received plan part) inputs) pair is in
            serving_fits pair.0 pair.1 found.0 found.1
