-- Each read entry of a valid plan is served by an exchange that the participant receives, and reads the input at that exchange's place.
use Rattle.std.proofs.Common.{◌≡◌, ℕ, suc, ◌+◌, ◌<◌, ◌≤◌, Bool, true, false, not, ◌&&◌, nat_eq, nat_le, cond, List, [], ◌∷◌, length, get_or, find, position, slice_get, Option, Some, None, Contains, inl, inr, refl, ap, sym, subst, ◌∙◌, arith}
use Rattle.std.specs.Prelude.{unwrap_or}
use Rattle.std.specs.List.{zip, list_all, position_or_len}
use Rattle.std.specs.Option.{option_map_or}
use Rattle.std.proofs.lemmas.Bool.{and_parts, and_from, eqb-true, eq-eqb, false≢true, lt-ltb, leb-true}
use Rattle.std.proofs.lemmas.List.Elements.{Contains-get_or}
use Rattle.std.proofs.lemmas.Option.{same_Some}
use Rattle.plan_order.proofs.Loops.{in_cons}
use Rattle.plan_order.proofs.Orders.{none_in_nil}
use Rattle.cpl_plan.specs.PlanWords.{are_distinct, data_of, feeders, numbers, passes}
use Rattle.cpl_plan.specs.ValidPlan.{IsValidPlan}
use Rattle.cpl_plan.specs.declared.parts.PlanParts.{PlanParts}
use Rattle.cpl_plan.specs.declared.parts.Part.{Part}
use Rattle.cpl_plan.specs.declared.parts.PlanEntry.{PlanEntry}
use Rattle.cpl_plan.specs.declared.parts.DataPlan.{DataPlan}
use Rattle.cpl_plan.specs.declared.parts.Exchange.{Exchange}
use Rattle.cpl_plan.proofs.Readings.{each_at, passes_at, at_passes, filter_in, in_filter}
use Rattle.core_laws.proofs.Steps.{all_tell}
use Rattle.wave_coupling.specs.Posts.{received}
use Rattle.wave_coupling.specs.InputWave.{InputWave, no_input}
use Rattle.wave_coupling.specs.Known.{read_entries, read_mesh, serves, map_at}
use Rattle.wave_coupling.specs.MappedInputs.{input_for}
use Rattle.wave_values.proofs.Lists.{one_number}
use Rattle.wave_values.proofs.Served.{Joins, read_for, end_is}
use Rattle.participant_tables.specs.ReadKept.{opening_read}

-- what passes is found within the list
found_within : {X : Type 0} (test : X → Bool) (xs : List X) (x : X) → Contains xs x → test x ≡ true → position_or_len test xs < length xs
found_within test [] x inside is = absurd (none_in_nil x inside)
found_within {X} test (y ∷ xs) x inside is = of (test y) refl (λ rest. found_within test xs x rest is)
  where
    of : (b : Bool) → test y ≡ b → (Contains xs x → position_or_len test xs < length xs) → cond (not (test y)) (1 + position_or_len test xs) 0 < length (y ∷ xs)
    of true here next = subst (λ (b : Bool). cond (not b) (1 + position_or_len test xs) 0 < length (y ∷ xs)) (sym here) (omega (arith))
    of false here next =
        let later : position_or_len test xs < length xs = elim (in_cons y xs x inside) [
          | inl same ↦ absurd (false≢true (sym here ∙ (ap test same ∙ is)))
          | inr rest ↦ next rest
        ] in
        subst (λ (b : Bool). cond (not b) (1 + position_or_len test xs) 0 < length (y ∷ xs)) (sym here) (omega (arith, later))

place_found : {X : Type 0} (test : X → Bool) (xs : List X) → position_or_len test xs < length xs → unwrap_or (position test xs) 0 ≡ position_or_len test xs
place_found test xs within =
    ap (λ b. unwrap_or (cond b (Some (position_or_len test xs)) None) 0) (lt-ltb (position_or_len test xs) (length xs) within)

-- what stands beside the item that is found
beside_found : {X Y : Type 0} (test : X → Bool) (xs : List X) (ys : List Y) (d : Y) → length ys ≡ length xs → position_or_len test xs < length xs
    → slice_get ys (position_or_len test xs) ≡ Some (option_map_or (λ (at : X × Y). at.1) (find (λ (at : X × Y). test at.0) (zip xs ys)) d)
beside_found test [] ys d alike within = absurd (omega (arith, within))
beside_found test (x ∷ xs) [] d alike within = absurd (omega (arith, alike))
beside_found {X} {Y} test (x ∷ xs) (y ∷ ys) d alike within = of (test x) refl (λ later. beside_found test xs ys d (omega (arith, alike)) later)
  where
    next : (n : ℕ) → slice_get (y ∷ ys) (1 + n) ≡ slice_get ys n
    next n = let same : 1 + n ≡ suc n = omega (arith) in ap (slice_get (y ∷ ys)) same

    of : (b : Bool) → test x ≡ b
        → (position_or_len test xs < length xs → slice_get ys (position_or_len test xs) ≡ Some (option_map_or (λ (at : X × Y). at.1) (find (λ (at : X × Y). test at.0) (zip xs ys)) d))
        → slice_get (y ∷ ys) (cond (not (test x)) (1 + position_or_len test xs) 0) ≡ Some (option_map_or (λ (at : X × Y). at.1) (cond (test x) (Some (x, y)) (find (λ (at : X × Y). test at.0) (zip xs ys))) d)
    of true here rest =
        ap (λ b. slice_get (y ∷ ys) (cond (not b) (1 + position_or_len test xs) 0)) here
        ∙ sym (ap (λ b. Some (option_map_or (λ (at : X × Y). at.1) (cond b (Some (x, y)) (find (λ (at : X × Y). test at.0) (zip xs ys))) d)) here)
    of false here rest =
        let later : position_or_len test xs < length xs = omega (arith, subst (λ (b : Bool). cond (not b) (1 + position_or_len test xs) 0 < length (x ∷ xs)) here within) in
        ap (λ b. slice_get (y ∷ ys) (cond (not b) (1 + position_or_len test xs) 0)) here
        ∙ (next (position_or_len test xs)
        ∙ (rest later
        ∙ sym (ap (λ b. Some (option_map_or (λ (at : X × Y). at.1) (cond b (Some (x, y)) (find (λ (at : X × Y). test at.0) (zip xs ys))) d)) here)))

module _ (plan : PlanParts) (valid : IsValidPlan plan) (part : ℕ) where
  -- what the reader reads of an exchange, and how it is mapped
  abbrev IsReadBy : Exchange → (reader : ℕ) → Type 0
  IsReadBy e reader =
      (p : Part) × (slice_get plan.parts reader ≡ Some p)
      × ((entry : PlanEntry) × Contains p.reads entry × (entry.data_id ≡ e.data_id) × Joins plan (map_at plan reader e.read_map) e.mesh entry.mesh)

  read_by : (x : ℕ) (e : Exchange) → slice_get plan.exchanges x ≡ Some e → e.to ≡ part → IsReadBy e part
  read_by x e at reads = subst (λ (p : ℕ). IsReadBy e p) reads (read_for plan valid x e at)

  abbrev is_server : PlanEntry → ℕ → Bool
  is_server entry x = passes plan.exchanges x (λ e. serves plan part e (read_mesh plan part e) entry)

  -- each read entry is served by an exchange
  served : (entry : PlanEntry) → Contains (read_entries plan part) entry → (x : ℕ) × Contains (received plan part) x × (is_server entry x ≡ true)
  served entry inside = of (slice_get plan.parts part) refl inside
    where
      of : (o : Option Part) → slice_get plan.parts part ≡ o → Contains (option_map_or (λ (p : Part). p.reads) o []) entry
          → (x : ℕ) × Contains (received plan part) x × (is_server entry x ≡ true)
      of None at inside = absurd (none_in_nil entry inside)
      of (Some p) at inside =
          let fed = all_tell (λ (f : PlanEntry). nat_eq (length (feeders plan part f.data_id)) 1) p.reads entry
          (each_at (λ q r. list_all (λ f. nat_eq (length (feeders plan q f.data_id)) 1) r.reads) plan.parts valid.participants.fed_once part p at) inside in
          let many : length (feeders plan part entry.data_id) ≡ 1 = eqb-true (length (feeders plan part entry.data_id)) 1 fed in
          let x : ℕ = get_or (feeders plan part entry.data_id) 0 0 in
          let own = filter_in (λ y. passes plan.exchanges y (λ e. nat_eq e.to part && nat_eq e.data_id entry.data_id)) (numbers plan.exchanges) x
          (Contains-get_or (feeders plan part entry.data_id) 0 0 (omega (arith, many))) in
          let found = passes_at plan.exchanges x (λ e. nat_eq e.to part && nat_eq e.data_id entry.data_id) own.1 in
          let e : Exchange = found.0 in
          let both = and_parts (nat_eq e.to part) (nat_eq e.data_id entry.data_id) found.2 in
          let data_same : e.data_id ≡ entry.data_id = eqb-true e.data_id entry.data_id both.1 in
          let by = read_by x e found.1 (eqb-true e.to part both.0) in
          let one : by.0 ≡ p = same_Some by.0 p (sym by.1 ∙ at) in
          let listed : Contains p.reads by.2.0 = subst (λ (q : Part). Contains q.reads by.2.0) one by.2.1 in
          let apart : are_distinct nat_eq (data_of p.reads) ≡ true = each_at (λ _ r. are_distinct nat_eq (data_of r.reads)) plan.parts valid.participants.read_once part p at in
          let same : by.2.0 ≡ entry = one_number (λ (f : PlanEntry). f.data_id) p.reads by.2.0 entry apart listed inside (by.2.2 ∙ data_same) in
          let there : entry.mesh ≡ read_mesh plan part e = sym (end_is plan (map_at plan part e.read_map) e.mesh by.2.0.mesh by.2.3 ∙ ap (λ (f : PlanEntry). f.mesh) same) in (
            x,
            in_filter (λ y. passes plan.exchanges y (λ f. nat_eq f.to part)) (numbers plan.exchanges) x own.0 (at_passes plan.exchanges x (λ f. nat_eq f.to part) e found.1 both.0),
            at_passes plan.exchanges x (λ f. serves plan part f (read_mesh plan part f) entry) e found.1
                (and_from (nat_eq entry.data_id e.data_id) (nat_eq entry.mesh (read_mesh plan part e)) (eq-eqb entry.data_id e.data_id (sym data_same)) (eq-eqb entry.mesh (read_mesh plan part e) there)),
          )

  found : (entry : PlanEntry) → Contains (read_entries plan part) entry → position_or_len (is_server entry) (received plan part) < length (received plan part)
  found entry inside = let by = served entry inside in found_within (is_server entry) (received plan part) by.0 by.1 by.2

  is_found : (entry : PlanEntry) → Contains (read_entries plan part) entry → (opening_read plan part entry).received ≡ position_or_len (is_server entry) (received plan part)
  is_found entry inside = place_found (is_server entry) (received plan part) (found entry inside)

  pub served-within : (entry : PlanEntry) → Contains (read_entries plan part) entry → (opening_read plan part entry).received < length (received plan part)
  served-within entry inside = omega (arith, is_found entry inside, found entry inside)

  pub served-input : (entry : PlanEntry) (inputs : List InputWave) → Contains (read_entries plan part) entry → length inputs ≡ length (received plan part)
      → slice_get inputs (opening_read plan part entry).received ≡ Some (input_for plan part inputs entry)
  served-input entry inputs inside alike =
      ap (slice_get inputs) (is_found entry inside) ∙ beside_found (is_server entry) (received plan part) inputs no_input alike (found entry inside)

  pub degree-few : (entry : PlanEntry) → (opening_read plan part entry).degree ≤ 1
  degree-few entry = of (slice_get plan.data_list entry.data_id) refl
    where
      of : (o : Option DataPlan) → slice_get plan.data_list entry.data_id ≡ o → option_map_or (λ (d : DataPlan). d.degree) o 0 ≤ 1
      of None at = omega (arith)
      of (Some d) at = leb-true d.degree 1 (each_at (λ _ (item : DataPlan). nat_le item.degree 1) plan.data_list valid.meshes.degrees entry.data_id d at)
