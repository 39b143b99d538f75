-- A step of a solve on its way fits, and leaves it fitting.
use Rattle.std.proofs.Common.{◌≡◌, inl, inr, ℕ, ◌+◌, ◌-◌, ◌*◌, ◌<◌, ◌≤◌, Bool, true, false, ◌||◌, nat_eq, if◌then◌else◌, List, [], ◌∷◌, ◌++◌, length, get_or, map, flat_map, slice_get, Option, Some, Result, Ok, Err, IsTrue, All, AllPairs, Contains, sum_by, ℤ, refl, ap, sym, subst, ◌∙◌, arith, length-append}
use Rattle.std.specs.List.{enumerate_from}
use Rattle.std.specs.Option.{option_map_or}
use Rattle.std.proofs.lemmas.Bool.{eqb-true, eqb-false, or_parts, or_cases, false≢true}
use Rattle.std.proofs.lemmas.List.{get_or_push}
use Rattle.std.proofs.lemmas.List.Elements.{All-append, All-cons, All-map, All-nil, All-push, Contains-get_or}
use Rattle.std.proofs.lemmas.List.FromFn.{get_or-enumerate_from, length-enumerate_from}
use Rattle.std.proofs.lemmas.List.Quantifiers.{all_pairs_push}
use Rattle.std.proofs.lemmas.List.Sums.{sum_by-cons}
use Rattle.std.proofs.lemmas.Option.{slice_get-get_or}
use Rattle.plan_order.proofs.Loops.{head_in, tail_in}
use Rattle.fixed_num.specs.Numbers.{IsValue}
use Rattle.cpl_plan.specs.PlanWords.{components_of, components_on}
use Rattle.cpl_plan.specs.ValidPlan.{IsValidPlan}
use Rattle.cpl_plan.specs.declared.parts.PlanParts.{PlanParts}
use Rattle.cpl_plan.specs.declared.parts.PlanEntry.{PlanEntry}
use Rattle.cpl_plan.specs.declared.words.Fault.{Fault}
use Rattle.solver_trait.specs.Behaviour.{Behaviour, Next, goes_on as steps_on, faults}
use Rattle.coupled_loop.specs.Solving.{Stepped, goes_on, arrives, breaks}
use Rattle.wave_coupling.specs.Posts.{Post, wave_of}
use Rattle.wave_coupling.specs.Known.{read_entries, write_entries, width_of}
use Rattle.wave_coupling.specs.MappedInputs.{input_for, degree_of}
use Rattle.wave_coupling.specs.Noted.{Reading, Written, reads, writes}
use Rattle.wave_coupling.specs.PostedWaves.{post_of}
use Rattle.wave_coupling.specs.Solve.{Run, ticks, step_end, read_time, reading_of, readings_of, written_by, run_after, arrived, after_step_of, next_of, written_notes, notes_of}
use Rattle.wave_laws.specs.Fitting.{AreValues, IsInputWave, IsPostedWave}
use Rattle.wave_laws.proofs.ReadValues.{read_are, input_read_at}
use Rattle.wave_values.specs.Trait.{MeetsTrait, FitsEntries}
use Rattle.wave_values.specs.Fits.{IsReadingOf, IsNoteOf, KnowsMeshes, EndsInTime}
use Rattle.wave_values.proofs.WritesFit.{AreSteps, post_fits}

-- the components of an entry
abbrev pub components_at : PlanParts → PlanEntry → ℕ
components_at plan entry = option_map_or (λ n. n) (components_on plan entry.data_id entry.mesh) 0

-- a solve on its way, before its next step
pub record IsRunFitting (plan : PlanParts) (part : ℕ) {State : Type 0} (sound : State → Bool) (start : ℕ) (run : Run State) : Type 0 where
  pub state : IsTrue (sound run.state)
  pub since : start ≤ run.now
  pub until : run.now < run.latest
  pub inputs : (entry : PlanEntry) → Contains (read_entries plan part) entry
      → IsInputWave start run.latest (components_at plan entry) (width_of plan part run.known entry) (input_for plan part run.inputs entry).wave
  pub rising : AllPairs (λ (one later : Written). one.time < later.time) run.written
  pub after : All (λ (one : Written). start < one.time) run.written
  pub before : All (λ (one : Written). one.time ≤ run.now) run.written
  pub values : All (λ (one : Written). AreValues (sum_by (width_of plan part run.known) (write_entries plan part)) one.values) run.written

-- what a step leads to
abbrev pub AfterFits : (plan : PlanParts) (vertices : ℕ → ℕ) (part : ℕ) {State : Type 0} (sound : State → Bool) (start : ℕ) → Run State → Stepped State (Run State) Post Fault → Type 0
AfterFits plan vertices part sound start run (goes_on next) =
    IsRunFitting plan part sound start next × (next.known ≡ run.known) × (next.latest ≡ run.latest) × (next.one_step ≡ run.one_step)
    × (length next.written ≡ length run.written + 1)
AfterFits plan vertices part sound start run (arrives state post) = IsTrue (sound state) × EndsInTime plan vertices part start run.latest run.one_step post
AfterFits plan vertices part sound start run (breaks state why) = IsTrue (sound state)

module _ (plan : PlanParts) (valid : IsValidPlan plan) (vertices : ℕ → ℕ) (part : ℕ) {State : Type 0} (solver : Behaviour State) (sound : State → Bool) (meets : MeetsTrait sound solver)
    (start : ℕ) (run : Run State) (fits : FitsEntries plan part run.known solver) (knows : KnowsMeshes plan vertices part run.known) (is : IsRunFitting plan part sound start run) where
  picked : (1 ≤ ticks plan part solver run) × (ticks plan part solver run ≤ run.latest - run.now)
  picked = meets.picks run.state (run.latest - run.now) is.state (omega (arith, is.until))

  end_within : step_end plan part solver run ≤ run.latest
  end_within = omega (arith, picked.1, is.until)

  read_within : (start ≤ read_time plan part solver run) × (read_time plan part solver run ≤ run.latest)
  read_within =
      elim (solver.reads_at_end run.state) as (λ b. (start ≤ (if b then step_end plan part solver run else run.now)) × ((if b then step_end plan part solver run else run.now) ≤ run.latest)) [
        | true ↦ (omega (arith, is.since), end_within)
        | false ↦ (is.since, omega (arith, is.until))
      ]

  reading_fits : (number : ℕ) (entry : PlanEntry) → Contains (read_entries plan part) entry
      → AreValues (width_of plan part run.known entry) (reading_of plan part solver run number entry).values
  reading_fits number entry inside =
      let input = is.inputs entry inside in
      read_are (components_at plan entry) (width_of plan part run.known entry) (input_for plan part run.inputs entry).wave (degree_of plan part entry) (read_time plan part solver run)
      input.samples input.least
      (input_read_at start run.latest (components_at plan entry) (width_of plan part run.known entry) (input_for plan part run.inputs entry).wave (read_time plan part solver run)
      input read_within.0 read_within.1)

  readings_fit : All (IsReadingOf plan part run.known) (readings_of plan part solver run)
  readings_fit =
      All-map (IsReadingOf plan part run.known) (λ (at : ℕ × PlanEntry). reading_of plan part solver run at.0 at.1) (enumerate_from 1 (read_entries plan part))
      (λ k d within.
      let inside : k < length (read_entries plan part) = omega (arith, within, length-enumerate_from 1 (read_entries plan part)) in
      let place : k ≡ 1 + k - 1 = omega (arith) in
      subst (λ (at : ℕ × PlanEntry). IsReadingOf plan part run.known (reading_of plan part solver run at.0 at.1)) (sym (get_or-enumerate_from 1 (read_entries plan part) k d inside))
      (record {
        entry = get_or (read_entries plan part) k d.1;
        from_one = omega (arith);
        named = subst (λ (n : ℕ). slice_get (read_entries plan part) n ≡ Some (get_or (read_entries plan part) k d.1)) place (slice_get-get_or (read_entries plan part) k d.1 inside);
        values = reading_fits (1 + k) (get_or (read_entries plan part) k d.1) (Contains-get_or (read_entries plan part) k d.1 inside);
      }))

  -- all that a step reads
  all_read : (n : ℕ) (entries : List PlanEntry) → ((number : ℕ) (entry : PlanEntry) → Contains entries entry → AreValues (width_of plan part run.known entry) (reading_of plan part solver run number entry).values)
      → AreValues (sum_by (width_of plan part run.known) entries)
      (flat_map (λ (reading : Reading). reading.values) (map (λ (at : ℕ × PlanEntry). reading_of plan part solver run at.0 at.1) (enumerate_from n entries)))
  all_read n [] each = record { in_all = refl; each = All-nil IsValue }
  all_read n (entry ∷ entries) each =
      let one = each n entry (head_in entry entries) in
      let more = all_read (n + 1) entries (λ number other inside. each number other (tail_in entry entries other inside)) in
      let first : List ℤ = (reading_of plan part solver run n entry).values in
      let rest : List ℤ = flat_map (λ (reading : Reading). reading.values) (map (λ (at : ℕ × PlanEntry). reading_of plan part solver run at.0 at.1) (enumerate_from (n + 1) entries)) in
      record {
        in_all = omega (arith, length-append first rest, sum_by-cons (width_of plan part run.known) entry entries, one.in_all, more.in_all);
        each = All-append IsValue first rest one.each more.each;
      }

  stepped : (after : State) (values : List ℤ) → next_of plan part solver run ≡ steps_on after values
      → IsTrue (sound after) × AreValues (sum_by (width_of plan part run.known) (write_entries plan part)) values
  stepped after values same =
      let read_all : List ℤ = flat_map (λ (reading : Reading). reading.values) (readings_of plan part solver run) in
      let all = meets.steps run.state after (ticks plan part solver run) read_all values is.state picked.0
      (subst (λ (n : ℕ). AreValues n read_all) (sym fits.reads) (all_read 1 (read_entries plan part) reading_fits)) same in
      (all.0, subst (λ (n : ℕ). AreValues n values) fits.writes all.1)

  -- what is noted of the step
  pub notes_fit : All (IsNoteOf plan part run.known) (notes_of plan part solver run)
  notes_fit =
      All-append (IsNoteOf plan part run.known) (map reads (readings_of plan part solver run)) (written_notes plan part solver run (next_of plan part solver run))
      (All-map (IsNoteOf plan part run.known) reads (readings_of plan part solver run) readings_fit) (of (next_of plan part solver run) refl)
    where
      of : (next : Next State) → next_of plan part solver run ≡ next → All (IsNoteOf plan part run.known) (written_notes plan part solver run next)
      of (steps_on after values) same =
          All-cons (IsNoteOf plan part run.known) (writes (written_by plan part solver run values)) [] (stepped after values same).1 (All-nil (IsNoteOf plan part run.known))
      of (faults code) same = All-nil (IsNoteOf plan part run.known)

  module _ (room : length run.written + 1 ≤ 1024) (after : State) (values : List ℤ) (same : next_of plan part solver run ≡ steps_on after values) where
    abbrev one_more : Written
    one_more = written_by plan part solver run values

    rising_more : AllPairs (λ (one later : Written). one.time < later.time) (run.written ++ one_more ∷ [])
    rising_more =
        all_pairs_push (λ (one later : Written). one.time < later.time) run.written one_more is.rising (λ k d within. omega (arith, is.before k d within, picked.0))

    after_more : All (λ (one : Written). start < one.time) (run.written ++ one_more ∷ [])
    after_more = All-push (λ (one : Written). start < one.time) run.written one_more is.after (omega (arith, is.since, picked.0))

    values_more : All (λ (one : Written). AreValues (sum_by (width_of plan part run.known) (write_entries plan part)) one.values) (run.written ++ one_more ∷ [])
    values_more =
        All-push (λ (one : Written). AreValues (sum_by (width_of plan part run.known) (write_entries plan part)) one.values) run.written one_more is.values (stepped after values same).1

    steps_are : AreSteps start (step_end plan part solver run) (sum_by (width_of plan part run.known) (write_entries plan part)) (run.written ++ one_more ∷ [])
    steps_are = record {
      least = omega (arith, length-append run.written (one_more ∷ []));
      most = omega (arith, length-append run.written (one_more ∷ []), room);
      rising = rising_more;
      after = after_more;
      at_end = λ d. ap (λ (one : Written). one.time) (get_or_push run.written one_more d (length (run.written ++ one_more ∷ []) - 1) (omega (arith, length-append run.written (one_more ∷ []))));
      values = values_more;
    }

    -- the solve has come to its end
    arrives_fits : ((run.one_step || nat_eq (step_end plan part solver run) run.latest) ≡ true)
        → (result : Result Post (Option Fault)) → post_of plan part run.known run.window run.iteration (run.written ++ one_more ∷ []) ≡ result
        → AfterFits plan vertices part sound start run (arrived plan part solver after result)
    arrives_fits there (Ok post) made = (
      (stepped after values same).0,
      record {
        end = step_end plan part solver run;
        after = omega (arith, is.since, picked.0);
        before = end_within;
        reached = λ many.
            elim (or_cases run.one_step (nat_eq (step_end plan part solver run) run.latest) there) [
              | inl one ↦ absurd (false≢true (sym many ∙ one))
              | inr last ↦ eqb-true (step_end plan part solver run) run.latest last
            ];
        waves = λ x e at sends.
            subst (λ (n : ℕ). IsPostedWave start (step_end plan part solver run) (components_of plan e) (components_of plan e * n) (wave_of plan e x post)) (knows x e at (inl sends))
            (post_fits plan valid run.known x e at part sends start (step_end plan part solver run) run.window run.iteration (run.written ++ one_more ∷ []) post steps_are made);
      },
    )
    arrives_fits there (Err why) made = (stepped after values same).0

    -- or goes on
    goes_fits : ((run.one_step || nat_eq (step_end plan part solver run) run.latest) ≡ false)
        → AfterFits plan vertices part sound start run (goes_on (run_after plan part solver run after values))
    goes_fits off =
        let both = or_parts run.one_step (nat_eq (step_end plan part solver run) run.latest) off in
        let other = eqb-false (step_end plan part solver run) run.latest both.1 in (
          record {
            state = (stepped after values same).0;
            since = omega (arith, is.since);
            until = omega (arith, end_within, other);
            inputs = is.inputs;
            rising = rising_more;
            after = after_more;
            before = All-push (λ (one : Written). one.time ≤ step_end plan part solver run) run.written one_more (λ k d within. omega (arith, is.before k d within)) (omega (arith));
            values = values_more;
          },
          refl,
          refl,
          refl,
          length-append run.written (one_more ∷ []),
        )

    step_by : (b : Bool) → (run.one_step || nat_eq (step_end plan part solver run) run.latest) ≡ b
        → AfterFits plan vertices part sound start run
        (if b then arrived plan part solver after (post_of plan part run.known run.window run.iteration (run_after plan part solver run after values).written)
        else goes_on (run_after plan part solver run after values))
    step_by true there = arrives_fits there (post_of plan part run.known run.window run.iteration (run.written ++ one_more ∷ [])) refl
    step_by false off = goes_fits off

  pub step_fits : length run.written + 1 ≤ 1024 → AfterFits plan vertices part sound start run (after_step_of plan part solver run (next_of plan part solver run))
  step_fits room = of (next_of plan part solver run) refl
    where
      of : (next : Next State) → next_of plan part solver run ≡ next → AfterFits plan vertices part sound start run (after_step_of plan part solver run next)
      of (steps_on after values) same = step_by room after values same (run.one_step || nat_eq (step_end plan part solver run) run.latest) refl
      of (faults code) same = is.state
