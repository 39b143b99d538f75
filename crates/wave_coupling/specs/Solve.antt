-- One solve of a participant: its steps through a window, what each reads and writes, and what is posted. The usual loop of the coupling documentation; the greatest number of steps and the faults are the project's own.
use Rattle.std.specs.Prelude.{ℕ, ◌+◌, ◌-◌, Bool, ◌||◌, nat_eq, if◌then◌else◌, List, [], ◌∷◌, ◌++◌, map, flat_map, Option, Some, Result, Ok, Err, ℤ}
use Rattle.std.specs.List.{enumerate_from}
use Rattle.cpl_plan.specs.declared.parts.PlanParts.{PlanParts}
use Rattle.cpl_plan.specs.declared.parts.PlanEntry.{PlanEntry}
use Rattle.cpl_plan.specs.declared.words.Fault.{Fault}
use Rattle.cpl_plan.specs.declared.words.Fault.TheVariants.{Solver}
use Rattle.solver_trait.specs.Behaviour.{Behaviour, Next, goes_on as steps_on, faults}
use Rattle.waveform.specs.WaveValue.{read}
use Rattle.coupled_loop.specs.Solving.{Stepped, goes_on, arrives, breaks}
use Rattle.wave_coupling.specs.Posts.{Post}
use Rattle.wave_coupling.specs.InputWave.{InputWave}
use Rattle.wave_coupling.specs.Noted.{Reading, Written, Note, reads, writes}
use Rattle.wave_coupling.specs.Known.{Known, read_entries}
use Rattle.wave_coupling.specs.PostedWaves.{post_of, initial_post}
use Rattle.wave_coupling.specs.MappedInputs.{mapped_inputs, input_for, degree_of}

-- what a participant is given at its turn: when the window starts, when it ends at the latest, whether one step makes it, and a wave for each exchange that it receives, in order
pub record Inputs : Type 0 where
  pub start : ℕ
  pub latest : ℕ
  pub one_step : Bool
  pub waves : List InputWave

-- a solve on its way: in which turn, from where to where, the next step, the state, for each read entry the mapped input, and the samples written so far
pub record Run (State : Type 0) : Type 0 where
  pub window : ℕ
  pub iteration : ℕ
  pub now : ℕ
  pub latest : ℕ
  pub one_step : Bool
  pub step : ℕ
  pub state : State
  pub known : Known
  pub inputs : List InputWave
  pub written : List Written

module _ (plan : PlanParts) (part : ℕ) {State : Type 0} (solver : Behaviour State) where
  abbrev pub first_post : Known → State → Result Post (Option Fault)
  first_post known state = initial_post plan part known (solver.first state)

  -- a solve begins once its inputs are mapped
  abbrev pub run_of : Known → (w k : ℕ) → Inputs → State → Result (List InputWave) (Option Fault) → Result (Run State) (Option Fault)
  run_of known w k inputs state (Err why) = Err why
  run_of known w k inputs state (Ok waves) = Ok (record {
    window = w;
    iteration = k;
    now = inputs.start;
    latest = inputs.latest;
    one_step = inputs.one_step;
    step = 1;
    state = state;
    known = known;
    inputs = waves;
    written = [];
  })

  abbrev pub begin_solve : Known → (w k : ℕ) → State → Inputs → Result (Run State) (Option Fault)
  begin_solve known w k state inputs = run_of known w k inputs state (mapped_inputs plan part known w k inputs.waves)

  -- the ticks of the next step, the time at which it ends, and that at which it reads
  abbrev pub ticks : Run State → ℕ
  ticks run = solver.pick run.state (run.latest - run.now)

  abbrev pub step_end : Run State → ℕ
  step_end run = run.now + ticks run

  abbrev pub read_time : Run State → ℕ
  read_time run = if solver.reads_at_end run.state then step_end run else run.now

  -- what the step reads of an entry
  abbrev pub reading_of : Run State → (number : ℕ) → PlanEntry → Reading
  reading_of run number entry = record {
    window = run.window;
    iteration = run.iteration;
    step = run.step;
    time = read_time run;
    entry = number;
    source_window = (input_for plan part run.inputs entry).source_window;
    source_iteration = (input_for plan part run.inputs entry).source_iteration;
    values = read (input_for plan part run.inputs entry).wave (degree_of plan part entry) (read_time run);
  }

  abbrev pub readings_of : Run State → List Reading
  readings_of run = map (λ at. reading_of run at.0 at.1) (enumerate_from 1 (read_entries plan part))

  abbrev pub written_by : Run State → List ℤ → Written
  written_by run values = record { window = run.window; iteration = run.iteration; step = run.step; time = step_end run; values = values }

  -- the run after a step
  abbrev pub run_after : Run State → State → List ℤ → Run State
  run_after run state values = record run { now = step_end run; step = run.step + 1; state = state; written = run.written ++ written_by run values ∷ [] }

  abbrev pub arrived : State → Result Post (Option Fault) → Stepped State (Run State) Post Fault
  arrived state (Ok post) = arrives state post
  arrived state (Err why) = breaks state why

  -- the solve goes on until its window's end, which the one step of a window that it makes has reached
  abbrev pub after_step_of : Run State → Next State → Stepped State (Run State) Post Fault
  after_step_of run (faults code) = breaks run.state (Some (Solver part run.window run.iteration run.step code))
  after_step_of run (steps_on state values) =
      if run.one_step || nat_eq (step_end run) run.latest
      then arrived state (post_of plan part run.known run.window run.iteration (run_after run state values).written)
      else goes_on (run_after run state values)

  abbrev pub next_of : Run State → Next State
  next_of run = solver.next run.state (ticks run) (flat_map (λ reading. reading.values) (readings_of run))

  -- what is noted of a step: its readings, and what it writes
  abbrev pub written_notes : Run State → Next State → List Note
  written_notes run (faults code) = []
  written_notes run (steps_on state values) = writes (written_by run values) ∷ []

  abbrev pub notes_of : Run State → List Note
  notes_of run = map reads (readings_of run) ++ written_notes run (next_of run)
