-- A solve from fitting inputs fits.
use Rattle.std.proofs.Common.{◌≡◌, inr, ℕ, zero, suc, ◌+◌, ◌<◌, ◌≤◌, Bool, true, false, ◌==◌, if◌then◌else◌, List, [], ◌++◌, length, Option, Result, Ok, Err, IsTrue, All, sum_by, refl, sym, subst, ◌∙◌, arith, append-nil, append_assoc}
use Rattle.std.proofs.lemmas.List.Elements.{All-append, All-nil}
use Rattle.mesh_data.specs.declared.any_mesh.AnyMesh.{AnyMesh}
use Rattle.cpl_plan.specs.ValidPlan.{IsValidPlan}
use Rattle.cpl_plan.specs.declared.parts.PlanParts.{PlanParts}
use Rattle.cpl_plan.specs.declared.words.Fault.{Fault}
use Rattle.solver_trait.specs.Behaviour.{Behaviour}
use Rattle.coupled_loop.specs.Solving.{Held, Solved, Solvers, Stepped, goes_on, arrives, breaks, notes, after_step, solve, begins, solve_from, solves}
use Rattle.wave_coupling.specs.Posts.{Post}
use Rattle.wave_coupling.specs.InputWave.{InputWave}
use Rattle.wave_coupling.specs.Known.{Known, write_entries, width_of}
use Rattle.wave_coupling.specs.MappedInputs.{mapped_inputs}
use Rattle.wave_coupling.specs.Noted.{Note, Written}
use Rattle.wave_coupling.specs.Solve.{Inputs, Run, run_of, notes_of, next_of, after_step_of}
use Rattle.wave_coupling.specs.Coupling.{wave_solvers}
use Rattle.wave_laws.specs.Fitting.{AreValues}
use Rattle.wave_values.specs.Trait.{MeetsTrait, FitsEntries}
use Rattle.wave_values.specs.Fits.{known_by, IsNoteOf, KnowsMeshes, AreInputs, EndsInTime, IsFittingSolve}
use Rattle.wave_values.proofs.Lists.{err_ok}
use Rattle.wave_values.proofs.ReadsFit.{entry_fits}
use Rattle.wave_values.proofs.StepsFit.{IsRunFitting, AfterFits, notes_fit, step_fits}

module _ (plan : PlanParts) (valid : IsValidPlan plan) (vertices : ℕ → ℕ) (part : ℕ) {State : Type 0} (meshes : ℕ → List AnyMesh) (solvers : ℕ → Behaviour State) (states : ℕ → State)
    (sound : State → Bool) (meets : MeetsTrait sound (solvers part)) where
  abbrev own_solvers : Solvers (List AnyMesh) Post Inputs Fault State (Run State) Note
  own_solvers = wave_solvers plan meshes solvers states

  abbrev Out : Type 0
  Out = Solved (List AnyMesh) State Note Post Fault

  abbrev Fits : Known → (start latest : ℕ) → Bool → List Note → Out → Type 0
  Fits known start latest one_step before out = IsFittingSolve plan vertices part sound known start latest one_step before out

  -- what was noted before is noted too
  longer : (known : Known) (start latest : ℕ) (one_step : Bool) (before more : List Note) (out : Out) → All (IsNoteOf plan part known) more
      → Fits known start latest one_step (before ++ more) out → Fits known start latest one_step before out
  longer known start latest one_step before more out fit rest = record {
    added = more ++ rest.added;
    noted = rest.noted ∙ append_assoc before more rest.added;
    fit = All-append (IsNoteOf plan part known) more rest.added fit rest.fit;
    state = rest.state;
    posts = rest.posts;
  }

  -- a solve that breaks off
  broken_fits : (known : Known) (start latest : ℕ) (one_step : Bool) (before added : List Note) (held : Held (List AnyMesh) State Note) (why : Option Fault)
      → held.notes ≡ before ++ added → All (IsNoteOf plan part known) added → IsTrue (sound held.state) → Fits known start latest one_step before (held, Err why)
  broken_fits known start latest one_step before added held why noted fit is_sound = record {
    added = added;
    noted = noted;
    fit = fit;
    state = is_sound;
    posts = λ post is. absurd (err_ok (Err why) why post refl is);
  }

  solve_fits : (steps w k start : ℕ) (run : Run State) (held : Held (List AnyMesh) State Note) → FitsEntries plan part run.known (solvers part) → KnowsMeshes plan vertices part run.known
      → IsRunFitting plan part sound start run → length run.written + steps ≤ 1024
      → Fits run.known start run.latest run.one_step held.notes (solve own_solvers part w k steps run held)
  solve_fits zero w k start run held fits knows is room =
      broken_fits run.known start run.latest run.one_step held.notes [] (record held { state = run.state }) (own_solvers.too_many part w k) (sym (append-nil held.notes))
      (All-nil (IsNoteOf plan part run.known)) is.state
  solve_fits (suc steps) w k start run held fits knows is room =
      by (after_step_of plan part (solvers part) run (next_of plan part (solvers part) run))
      (step_fits plan valid vertices part (solvers part) sound meets start run fits knows is (omega (arith, room)))
      (λ next now e_known fit few. solve_fits steps w k start next now (subst (λ (known : Known). FitsEntries plan part known (solvers part)) (sym e_known) fits)
      (subst (λ (known : Known). KnowsMeshes plan vertices part known) (sym e_known) knows) fit few)
    where
      own_notes : List Note
      own_notes = notes_of plan part (solvers part) run

      own_fit : All (IsNoteOf plan part run.known) own_notes
      own_fit = notes_fit plan valid vertices part (solvers part) sound meets start run fits knows is

      by : (stepped : Stepped State (Run State) Post Fault) → AfterFits plan vertices part sound start run stepped
          → ((next : Run State) (now : Held (List AnyMesh) State Note) → next.known ≡ run.known → IsRunFitting plan part sound start next → length next.written + steps ≤ 1024
          → Fits next.known start next.latest next.one_step now.notes (solve own_solvers part w k steps next now))
          → Fits run.known start run.latest run.one_step held.notes (after_step own_solvers part (solve own_solvers part w k steps) stepped (notes own_notes held))
      by (goes_on next) all more =
          longer run.known start run.latest run.one_step held.notes own_notes (solve own_solvers part w k steps next (notes own_notes held)) own_fit
          (subst (λ (known : Known). Fits known start run.latest run.one_step (held.notes ++ own_notes) (solve own_solvers part w k steps next (notes own_notes held))) all.1
          (subst (λ (latest : ℕ). Fits next.known start latest run.one_step (held.notes ++ own_notes) (solve own_solvers part w k steps next (notes own_notes held))) all.2
          (subst (λ (one : Bool). Fits next.known start next.latest one (held.notes ++ own_notes) (solve own_solvers part w k steps next (notes own_notes held))) all.3
          (more next (notes own_notes held) all.1 all.0 (omega (arith, all.4, room))))))
      by (arrives state post) all more = record {
        added = own_notes;
        noted = refl;
        fit = own_fit;
        state = all.0;
        posts = λ given is. let same : post ≡ given = cc in subst (λ (p : Post). EndsInTime plan vertices part start run.latest run.one_step p) same all.1;
      }
      by (breaks state why) all more =
          broken_fits run.known start run.latest run.one_step held.notes own_notes (record (notes own_notes held) { state = state }) why refl own_fit all

  -- a solve begins fitting
  pub run_begins : (w k : ℕ) (inputs : Inputs) (waves : List InputWave) (known : Known) (state : State) → AreInputs plan vertices part inputs → KnowsMeshes plan vertices part known
      → mapped_inputs plan part known w k inputs.waves ≡ Ok waves → IsTrue (sound state)
      → IsRunFitting plan part sound inputs.start (record {
        window = w;
        iteration = k;
        now = inputs.start;
        latest = inputs.latest;
        one_step = inputs.one_step;
        step = 1;
        state = state;
        known = known;
        inputs = waves;
        written = [];
      })
  run_begins w k inputs waves known state given knows made is_sound = record {
    state = is_sound;
    since = omega (arith);
    until = given.later;
    inputs = λ entry inside.
        entry_fits plan valid part known vertices (λ x e at reads. knows x e at (inr reads)) inputs.start inputs.latest w k inputs.waves waves given.each given.fit made entry inside;
    rising = λ i j d less within. absurd (omega (arith, within));
    after = All-nil (λ (one : Written). inputs.start < one.time);
    before = All-nil (λ (one : Written). one.time ≤ inputs.start);
    values = All-nil (λ (one : Written). AreValues (sum_by (width_of plan part known) (write_entries plan part)) one.values);
  }

  module _ (w k : ℕ) (inputs : Inputs) (given : AreInputs plan vertices part inputs) where
    -- a solve from what is held at its start
    from_held : (held : Held (List AnyMesh) State Note) → FitsEntries plan part (known_by meshes part held) (solvers part) → KnowsMeshes plan vertices part (known_by meshes part held)
        → IsTrue (sound held.state) → IsTrue (sound held.kept)
        → Fits (known_by meshes part held) inputs.start inputs.latest inputs.one_step held.notes (solve_from own_solvers part w k (begins own_solvers part w k inputs held) held)
    from_held held fits knows now kept = by (mapped_inputs plan part (known_by meshes part held) w k inputs.waves) refl
      where
        known : Known
        known = known_by meshes part held

        by : (result : Result (List InputWave) (Option Fault)) → mapped_inputs plan part (known_by meshes part held) w k inputs.waves ≡ result
            → Fits (known_by meshes part held) inputs.start inputs.latest inputs.one_step held.notes
            (solve_from own_solvers part w k (run_of plan part (solvers part) (known_by meshes part held) w k inputs held.kept result) held)
        by (Ok waves) made =
            solve_fits 1024 w k inputs.start
            (record {
              window = w;
              iteration = k;
              now = inputs.start;
              latest = inputs.latest;
              one_step = inputs.one_step;
              step = 1;
              state = held.kept;
              known = known_by meshes part held;
              inputs = waves;
              written = [];
            }) held fits knows
            (run_begins w k inputs waves (known_by meshes part held) held.kept given knows made kept) (omega (arith))
        by (Err why) made =
            broken_fits known inputs.start inputs.latest inputs.one_step held.notes [] held why (sym (append-nil held.notes)) (All-nil (IsNoteOf plan part known)) now

    pub whole_fits : (held : Held (List AnyMesh) State Note) → FitsEntries plan part (known_by meshes part held) (solvers part) → KnowsMeshes plan vertices part (known_by meshes part held)
        → IsTrue (sound held.state) → IsTrue (sound held.kept)
        → Fits (known_by meshes part held) inputs.start inputs.latest inputs.one_step held.notes (solves own_solvers part w k inputs held)
    whole_fits held fits knows now kept =
        elim (k == 1) as (λ b. Fits (known_by meshes part held) inputs.start inputs.latest inputs.one_step held.notes
        (solve_from own_solvers part w k
        (begins own_solvers part w k inputs (if b then record (notes [] held) { kept = held.state } else notes [] held))
        (if b then record (notes [] held) { kept = held.state } else notes [] held))) [
          | true ↦ subst (λ (before : List Note). Fits (known_by meshes part held) inputs.start inputs.latest inputs.one_step before
              (solve_from own_solvers part w k (begins own_solvers part w k inputs (record (notes [] held) { kept = held.state })) (record (notes [] held) { kept = held.state })))
              (append-nil held.notes) (from_held (record (notes [] held) { kept = held.state }) fits knows now now)
          | false ↦ subst (λ (before : List Note). Fits (known_by meshes part held) inputs.start inputs.latest inputs.one_step before
              (solve_from own_solvers part w k (begins own_solvers part w k inputs (notes [] held)) (notes [] held)))
              (append-nil held.notes) (from_held (notes [] held) fits knows now kept)
        ]
