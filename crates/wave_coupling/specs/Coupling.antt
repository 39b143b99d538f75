-- What is exchanged in a coupling of meshes and waves, and what its participants do: the loop, the core and all schedules are filled with these. After the coupling documentation; see the definitions that are cited.
use Rattle.std.specs.Prelude.{ℕ, ◌&&◌, Bool, true, false, nat_eq, if◌then◌else◌, List, [], map, slice_get, Some}
use Rattle.std.specs.Option.{option_map_or}
use Rattle.cpl_plan.specs.Windows.{window_start, window_end, latest_end}
use Rattle.cpl_plan.specs.declared.parts.PlanParts.{PlanParts}
use Rattle.cpl_plan.specs.declared.parts.WindowMethod.{WindowMethod}
use Rattle.cpl_plan.specs.declared.parts.WindowMethod.TheVariants.{Fixed, FirstParticipant}
use Rattle.cpl_plan.specs.declared.words.Fault.{Fault}
use Rattle.cpl_plan.specs.declared.words.Fault.TheVariants.{Steps}
use Rattle.solver_trait.specs.Behaviour.{Behaviour}
use Rattle.coupled_loop.specs.Given.{Look}
use Rattle.coupled_loop.specs.Endings.{Judgement}
use Rattle.coupled_loop.specs.Frames.{Frame}
use Rattle.coupled_loop.specs.Solving.{Solvers}
use Rattle.coupled_loop.specs.PlanFrames.{Exchanged, ends_made, window_maker, frame_of}
use Rattle.wave_coupling.specs.Posts.{Post, received, newest_time}
use Rattle.wave_coupling.specs.InputWave.{input_wave}
use Rattle.wave_coupling.specs.Judged.{judged_by}
use Rattle.mesh_data.specs.declared.any_mesh.AnyMesh.{AnyMesh}
use Rattle.wave_coupling.specs.Noted.{Note}
use Rattle.wave_coupling.specs.Solve.{Inputs, Run, first_post, begin_solve, notes_of, next_of, after_step_of}

abbrev pub is_first_step : WindowMethod → Bool
is_first_step Fixed = false
is_first_step FirstParticipant = true

-- the participant makes the windows by its steps
abbrev pub makes_windows : PlanParts → (part : ℕ) → Bool
makes_windows plan part = is_first_step plan.method && nat_eq part (window_maker plan)

module _ (plan : PlanParts) (look : Look Post) where
  -- the start of a window
  abbrev pub start_of : (w : ℕ) → ℕ
  start_of w = option_map_or (λ start. start) (window_start plan (ends_made newest_time look (window_maker plan) w) w) 0

  -- until when a participant may step: to the window's end, or, where its step makes the window, as far as a step may reach
  abbrev pub latest_of : (part w : ℕ) → ℕ
  latest_of part w =
      if makes_windows plan part then latest_end plan (start_of w)
      else option_map_or (λ end. end) (window_end plan (ends_made newest_time look (window_maker plan) w) w) 0

  abbrev pub inputs_of : (part w k : ℕ) → Inputs
  inputs_of part w k = record {
    start = start_of w;
    latest = latest_of part w;
    one_step = makes_windows plan part;
    waves = map (λ x. input_wave plan look x w (start_of w) k) (received plan part);
  }

  abbrev pub judge_of : (scheme w k : ℕ) → Judgement Fault
  judge_of scheme w k = judged_by plan look scheme w (start_of w) k (slice_get plan.schemes scheme)

abbrev pub exchanged : PlanParts → Exchanged Post Inputs Fault
exchanged plan = record { newest = newest_time; inputs = λ look part w k. inputs_of plan look part w k; judge = λ look scheme w k. judge_of plan look scheme w k }

-- the frame of a coupling of waves
abbrev pub wave_frame : PlanParts → Frame Post Inputs Fault
wave_frame plan = frame_of plan (exchanged plan)

-- participants with such meshes and solvers, from such states
abbrev pub wave_solvers : {State : Type 0} → PlanParts → (meshes : ℕ → List AnyMesh) → (solvers : ℕ → Behaviour State) → (states : ℕ → State)
    → Solvers (List AnyMesh) Post Inputs Fault State (Run State) Note
wave_solvers plan meshes solvers states = record {
  meshes = meshes;
  start = states;
  first = λ part received state. first_post plan part (solvers part) (record { own = meshes part; received = received }) state;
  begin = λ part w k received state inputs. begin_solve plan part (solvers part) (record { own = meshes part; received = received }) w k state inputs;
  step = λ part run. (notes_of plan part (solvers part) run, after_step_of plan part (solvers part) run (next_of plan part (solvers part) run));
  state_of = λ run. run.state;
  most_steps = 1024;
  too_many = λ part w k. Some (Steps part w k);
  note_inputs = λ part w k inputs. [];
  note_judgement = λ part w k judgement. [];
}
