-- Each read entry has its place among the inputs that a participant has taken.
use Rattle.std.proofs.Common.{◌≡◌, ℕ, ◌+◌, ◌<◌, ◌≤◌, Bool, true, false, not, nat_lt, cond, List, [], ◌∷◌, map, zip, length, get_or, slice_get, Option, Some, None, Contains, unwrap_or, refl, ap, sym, subst, ◌∙◌, arith}
use Rattle.std.specs.Prelude.{find, option_map, option_and_then}
use Rattle.std.specs.List.{position_or_len}
use Rattle.std.specs.Option.{option_map_or}
use Rattle.std.proofs.lemmas.Bool.{ltb-false}
use Rattle.std.proofs.lemmas.List.{length-map}
use Rattle.std.proofs.lemmas.Option.{slice_get-map, slice_get_within, get_or_from_slice_get, slice_get-get_or, same_Some}
use Rattle.cpl_plan.specs.PlanWords.{passes}
use Rattle.cpl_plan.specs.ValidPlan.{IsValidPlan}
use Rattle.cpl_plan.specs.declared.parts.PlanParts.{PlanParts}
use Rattle.cpl_plan.specs.declared.parts.PlanEntry.{PlanEntry}
use Rattle.wave_coupling.specs.InputWave.{InputWave, no_input}
use Rattle.wave_coupling.specs.Known.{read_entries, read_mesh, serves}
use Rattle.wave_coupling.specs.MappedInputs.{input_for}
use Rattle.wave_coupling.specs.Posts.{received}
use Rattle.participant_words.specs.Questions.{served_at}
use Rattle.participant_tables.specs.ReadKept.{opening_read, opening_reads, served_from}
use Rattle.participant_tables.specs.declared.read_table.ReadEntry.{ReadEntry}
use Rattle.participant_tables.proofs.Serving.{served-within, served-input}

-- what is not among the items is not among the pairs
none_found : {X Y : Type 0} (test : X → Bool) (xs : List X) (ys : List Y) → length xs ≤ position_or_len test xs → find (λ (at : X × Y). test at.0) (zip xs ys) ≡ None
none_found test [] ys past = refl
none_found test (x ∷ xs) [] past = refl
none_found {X} {Y} test (x ∷ xs) (y ∷ ys) past = of (test x) refl (λ later. none_found test xs ys later)
  where
    of : (b : Bool) → test x ≡ b → (length xs ≤ position_or_len test xs → find (λ (at : X × Y). test at.0) (zip xs ys) ≡ None)
        → cond (test x) (Some (x, y)) (find (λ (at : X × Y). test at.0) (zip xs ys)) ≡ None
    of true is rest = absurd (omega (arith, subst (λ (b : Bool). length (x ∷ xs) ≤ cond (not b) (1 + position_or_len test xs) 0) is past))
    of false is rest =
        let later : length xs ≤ position_or_len test xs = omega (arith, subst (λ (b : Bool). length (x ∷ xs) ≤ cond (not b) (1 + position_or_len test xs) 0) is past) in
        ap (λ (b : Bool). cond b (Some (x, y)) (find (λ (at : X × Y). test at.0) (zip xs ys))) is ∙ rest later

abbrev marked : InputWave
marked = record { source_window = 1; source_iteration = 0; wave = [] }

never_marked : (o : Option ℕ) → option_map (λ (x : ℕ). marked) o ≡ Some no_input → ⊥
never_marked None is = cc
never_marked (Some x) is =
    let same : marked ≡ no_input = same_Some marked no_input is in
    let one : 1 ≡ 0 = ap (λ (input : InputWave). input.source_window) same in
    omega (arith, one)

module _ (plan : PlanParts) (valid : IsValidPlan plan) (part : ℕ) where
  abbrev is_server : PlanEntry → ℕ → Bool
  is_server entry x = passes plan.exchanges x (λ e. serves plan part e (read_mesh plan part e) entry)

  abbrev place_in : PlanEntry → ℕ
  place_in entry = position_or_len (is_server entry) (received plan part)

  -- the place that is kept is the one that is found
  served_place : (entry : PlanEntry) → Contains (read_entries plan part) entry → served_from plan part entry ≡ Some (opening_read plan part entry).received
  served_place entry inside = of (nat_lt (place_in entry) (length (received plan part))) refl
    where
      of : (b : Bool) → nat_lt (place_in entry) (length (received plan part)) ≡ b → served_from plan part entry ≡ Some (opening_read plan part entry).received
      of true is =
          let found : served_from plan part entry ≡ Some (place_in entry) = ap (λ (b : Bool). cond b (Some (place_in entry)) None) is in
          found ∙ ap (λ (o : Option ℕ). Some (unwrap_or o 0)) (sym found)
      of false is =
          let past : length (received plan part) ≤ place_in entry = ltb-false (place_in entry) (length (received plan part)) is in
          let marks : List InputWave = map (λ (x : ℕ). marked) (received plan part) in
          let none : input_for plan part marks entry ≡ no_input =
          ap (λ (o : Option (ℕ × InputWave)). option_map_or (λ (at : ℕ × InputWave). at.1) o no_input) (none_found (is_server entry) (received plan part) marks past) in
          let there = served-input plan valid part entry marks inside (length-map (received plan part) (λ (x : ℕ). marked)) in
          absurd (never_marked (slice_get (received plan part) (opening_read plan part entry).received)
          (sym (slice_get-map (λ (x : ℕ). marked) (received plan part) (opening_read plan part entry).received) ∙ there ∙ ap Some none))

  -- the source that is read at the place that is kept
  found_in : (xs : List PlanEntry) (k : ℕ) (x : PlanEntry) → slice_get xs k ≡ Some x → Contains xs x
  found_in xs k x is = (k, slice_get_within xs k x is, get_or_from_slice_get xs k x x is)

  pub source_within : (reads : List ReadEntry) (entry : ℕ) (kept : ReadEntry) (sources : List (ℕ × ℕ)) → reads ≡ opening_reads plan part → slice_get reads entry ≡ Some kept
      → length sources ≡ length (received plan part) → kept.received < length sources
  source_within reads entry kept sources are is taken = of (slice_get (read_entries plan part) entry) refl (sym (slice_get-map (opening_read plan part) (read_entries plan part) entry) ∙ ap (λ (rs : List ReadEntry). slice_get rs entry) (sym are) ∙ is)
    where
      of : (o : Option PlanEntry) → slice_get (read_entries plan part) entry ≡ o → option_map (opening_read plan part) o ≡ Some kept → kept.received < length sources
      of None at seen = cc
      of (Some e) at seen =
          let same : opening_read plan part e ≡ kept = same_Some (opening_read plan part e) kept seen in
          omega (arith, served-within plan valid part e (found_in (read_entries plan part) entry e at), ap (λ (r : ReadEntry). r.received) same, taken)

  pub source_is : (reads : List ReadEntry) (entry : ℕ) (kept : ReadEntry) (sources : List (ℕ × ℕ)) (d : ℕ × ℕ) → reads ≡ opening_reads plan part → slice_get reads entry ≡ Some kept
      → length sources ≡ length (received plan part)
      → get_or sources kept.received d ≡ unwrap_or (option_and_then (λ e. option_and_then (slice_get sources) (served_at plan part e)) (slice_get (read_entries plan part) entry)) (0, 0)
  source_is reads entry kept sources d are is taken = of (slice_get (read_entries plan part) entry) refl (sym (slice_get-map (opening_read plan part) (read_entries plan part) entry) ∙ ap (λ (rs : List ReadEntry). slice_get rs entry) (sym are) ∙ is)
    where
      within : kept.received < length sources
      within = source_within reads entry kept sources are is taken

      of : (o : Option PlanEntry) → slice_get (read_entries plan part) entry ≡ o → option_map (opening_read plan part) o ≡ Some kept
          → get_or sources kept.received d ≡ unwrap_or (option_and_then (λ e. option_and_then (slice_get sources) (served_at plan part e)) o) (0, 0)
      of None at seen = cc
      of (Some e) at seen =
          let same : opening_read plan part e ≡ kept = same_Some (opening_read plan part e) kept seen in
          let place : served_at plan part e ≡ Some kept.received = served_place e (found_in (read_entries plan part) entry e at) ∙ ap (λ (r : ReadEntry). Some r.received) same in
          sym (ap (λ (o : Option ℕ). unwrap_or (option_and_then (slice_get sources) o) (0, 0)) place
          ∙ ap (λ (o : Option (ℕ × ℕ)). unwrap_or o (0, 0)) (slice_get-get_or sources kept.received d within))
