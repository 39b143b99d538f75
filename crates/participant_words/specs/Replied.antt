-- What becomes of a participant when its event is answered. After the coupling documentation, where initialization and each advance exchange data; events, replies and the stop at an overflow are the project's own.
use Rattle.std.specs.Prelude.{ℕ, nat_eq, if◌then◌else◌, is_some, false, true, List, [], ◌∷◌, ◌++◌, map, Option, Some, None, Result, Ok, Err}
use Rattle.cpl_plan.specs.declared.parts.PlanParts.{PlanParts}
use Rattle.cpl_plan.specs.declared.words.Fault.{Fault}
use Rattle.cpl_plan.specs.declared.words.Verdict.{Verdict}
use Rattle.cpl_plan.specs.declared.words.Verdict.TheVariants.{Again, Converged, AtLimit, NotConverged}
use Rattle.mesh_data.specs.declared.any_mesh.AnyMesh.{AnyMesh}
use Rattle.coupled_loop.specs.PlanFrames.{group_of}
use Rattle.wave_coupling.specs.Posts.{Post}
use Rattle.wave_coupling.specs.InputWave.{InputWave}
use Rattle.wave_coupling.specs.PostedWaves.{initial_post}
use Rattle.wave_coupling.specs.MappedInputs.{mapped_inputs}
use Rattle.core_sides.specs.declared.event.Event.{Event}
use Rattle.core_sides.specs.declared.event.Event.TheVariants.{Post as PostEvent, Take, Stop}
use Rattle.core_sides.specs.declared.event.StopCause.TheVariants.{Fault as ByFault}
use Rattle.core_sides.specs.declared.event.Reply.{Reply}
use Rattle.core_sides.specs.declared.event.Reply.TheVariants.{Posted, Meshes, Judged, Faulted, Inputs, Cut, Over}
use Rattle.core_sides.specs.declared.event.Input.{Input}
use Rattle.participant_words.specs.Course.{Course, known, written_next}
use Rattle.participant_words.specs.Begun.{begun, first_turn, repeated, next_window, is_last, input_wave_of, newest_input_time}
use Rattle.participant_words.specs.WatchShown.{by_watch, watches, watch_rows}
use Rattle.participant_words.specs.declared.phase.Phase.{Phase}
use Rattle.participant_words.specs.declared.phase.Phase.TheVariants.{Running, Done, Final, Stopped}
use Rattle.participant_words.specs.declared.phase.EventKind.{EventKind}
use Rattle.participant_words.specs.declared.phase.EventKind.TheVariants.{Post as PostKind, End as EndKind}

-- a mapping has overflowed: a Stop with that fault waits, and nothing else
abbrev pub overflowed : Fault → Course → Course
overflowed fault c = record c { queue = Stop (ByFault fault) ∷ []; overflow = Some fault }

-- a post waits, and then these events; or the Stop for its overflow in their place
abbrev pub posting : Result Post (Option Fault) → (rest : List Event) → Course → Course
posting (Ok waves) rest c = record c { queue = PostEvent waves ∷ rest }
posting (Err (Some fault)) rest c = overflowed fault c
posting (Err None) rest c = c

-- the participant has ended, and nothing waits any more
abbrev pub ended : Phase → Course → Course
ended phase c = record c { phase = phase; queue = []; out = None }

module _ (plan : PlanParts) (part : ℕ) where
  -- a window is completed: its watch-points are read, and the next inputs are asked for unless it was the last
  abbrev pub with_rows_shown : Course → Course
  with_rows_shown c = record c {
    rows = by_watch (watches plan part) (c.rows ++ watch_rows plan part (known plan part c) c.turn);
    complete = true;
    turn = next_window c.turn;
  }

  abbrev pub completed : Course → Course
  completed c =
      if is_last plan c.turn then record (with_rows_shown c) { phase = Done; queue = [] }
      else record (with_rows_shown c) { queue = Take ∷ [] }

  -- the meshes are there: the initial data are posted, and then the first inputs asked for
  abbrev pub joined : (given : List AnyMesh) → Course → Course
  joined given c =
      let with_meshes = record c { received = given } in
      posting (initial_post plan part (known plan part with_meshes) (written_next c)) (Take ∷ []) with_meshes

  -- a post is made: of initial data, of a turn that is then judged, or of a window that is completed by it
  abbrev pub posted : Course → Course
  posted c =
      if nat_eq c.turn.window 0 then record c { turn = first_turn c.turn }
      else if is_some (group_of plan part) then c
      else completed c

  -- a window is repeated or completed
  abbrev pub judged : Verdict → Course → Course
  judged Again c = record c { turn = repeated c.turn; complete = false; queue = Take ∷ [] }
  judged Converged c = completed c
  judged AtLimit c = completed c
  judged (NotConverged measure) c = c

  -- the inputs are there: they are mapped, and the turn begins
  abbrev pub turn_begun : (newest : ℕ) → Result (List InputWave) (Option Fault) → Course → Course
  turn_begun newest (Ok inputs) c = record c {
    phase = Running;
    turn = begun plan part c.turn newest inputs;
    asked = record c.asked { writing = false; reading = false };
  }
  turn_begun newest (Err (Some fault)) c = overflowed fault c
  turn_begun newest (Err None) c = c

  abbrev pub given_inputs : (inputs : List Input) → Course → Course
  given_inputs inputs c =
      let with_sources = record c { sources = map (λ input. (input.source_window, input.source_iteration)) inputs } in
      turn_begun (newest_input_time inputs)
      (mapped_inputs plan part (known plan part c) c.turn.window c.turn.iteration (map input_wave_of inputs)) with_sources

  -- the reply to an event of this kind: to its meshes nothing more becomes of it
  abbrev pub posted_as : EventKind → Course → Course
  posted_as PostKind c = posted c
  posted_as kind c = c

  abbrev pub phase_over : EventKind → Phase
  phase_over EndKind = Final
  phase_over kind = Stopped

  abbrev pub answered : Reply → EventKind → Course → Course
  answered Posted kind c = posted_as kind c
  answered (Meshes given) kind c = joined given c
  answered (Judged verdict) kind c = judged verdict c
  answered (Inputs inputs) kind c = given_inputs inputs c
  answered Over kind c = ended (phase_over kind) c
  answered (Faulted fault) kind c = ended Stopped c
  answered (Cut who) kind c = ended Stopped c

  -- the event that is out is answered
  abbrev pub replied : Option EventKind → Reply → Course → Course
  replied None reply c = c
  replied (Some kind) reply c = answered reply kind (record c { out = None })
