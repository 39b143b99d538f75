-- Which reply may come to the event that is out, and what of it is answered as an error. The replies are the project's own.
use Rattle.std.specs.Prelude.{◌≡◌, ℕ, ◌*◌, ◌<◌, ◌≤◌, ◌⊎◌, List, length, slice_get, Option, Some, None, option_map, option_and_then}
use Rattle.std.specs.Option.{option_map_or}
use Rattle.cpl_plan.specs.PlanWords.{components_of}
use Rattle.cpl_plan.specs.declared.parts.PlanParts.{PlanParts}
use Rattle.cpl_plan.specs.declared.parts.Exchange.{Exchange}
use Rattle.cpl_plan.specs.declared.words.Fault.{Fault}
use Rattle.cpl_plan.specs.declared.words.Fault.TheVariants.{Relax, NotConverged as StrictMeasure}
use Rattle.cpl_plan.specs.declared.words.Verdict.{Verdict}
use Rattle.cpl_plan.specs.declared.words.Verdict.TheVariants.{Again, Converged, AtLimit}
use Rattle.waveform.specs.IsWave.{IsWave, first_time, last_time}
use Rattle.waveform.specs.declared.sample.Sample.{Sample}
use Rattle.mesh_data.specs.declared.any_mesh.AnyMesh.{AnyMesh}
use Rattle.coupled_loop.specs.PlanFrames.{group_of, iterations_of}
use Rattle.wave_coupling.specs.Posts.{Wave, received}
use Rattle.wave_coupling.specs.Known.{points_of, received_meshes}
use Rattle.core_sides.specs.PostedMeshes.{IsOfPlan}
use Rattle.core_sides.specs.declared.event.Reply.{Reply}
use Rattle.core_sides.specs.declared.event.Reply.TheVariants.{Posted, Meshes, Judged, Faulted, Inputs, Cut, Over}
use Rattle.core_sides.specs.declared.event.Input.{Input}
use Rattle.participant_words.specs.Course.{Course, known}
use Rattle.participant_words.specs.Begun.{latest_of, newest_input_time}
use Rattle.participant_words.specs.declared.api_err.ApiErr.{ApiErr}
use Rattle.participant_words.specs.declared.api_err.ApiErr.TheVariants.{Overflow, NotConverged, PeerEnded}
use Rattle.participant_words.specs.declared.phase.EventKind.{EventKind}
use Rattle.participant_words.specs.declared.phase.EventKind.TheVariants.{PostMesh as PostMeshKind, TakeMeshes as TakeMeshesKind, Post as PostKind, Judge as JudgeKind, Take as TakeKind, Stop as StopKind, End as EndKind}

module _ (plan : PlanParts) (part : ℕ) (c : Course) where
  -- one mesh for each that the participant receives, in order, of the plan's dimensions and not empty
  pub record AreMeshes (meshes : List AnyMesh) : Type 0 where
    pub count : length meshes ≡ length (received_meshes plan part)
    pub each : (i number : ℕ) (mesh : AnyMesh) → slice_get (received_meshes plan part) i ≡ Some number → slice_get meshes i ≡ Some mesh
        → IsOfPlan plan number mesh

  -- a sample has the lengths of its exchange
  pub record IsOfExchange (e : Exchange) (sample : Sample) : Type 0 where
    pub components : sample.field.components ≡ components_of plan e
    pub values : length sample.field.values ≡ components_of plan e * length (points_of plan part (known plan part c) e.mesh)

  -- a wave of one sample, or from the window's start to its end
  pub record IsInput (start end : ℕ) (e : Exchange) (wave : Wave) : Type 0 where
    pub is_wave : IsWave wave
    pub lengths : (i : ℕ) (sample : Sample) → slice_get wave i ≡ Some sample → IsOfExchange e sample
    pub span : (length wave ≡ 1) ⊎ ((first_time wave ≡ start) × (last_time wave ≡ end))

  -- one input for each exchange that the participant receives, in order, over a window that ends in time
  pub record AreInputs (inputs : List Input) : Type 0 where
    pub count : length inputs ≡ length (received plan part)
    pub begins : c.turn.start ≤ latest_of plan part c.turn (newest_input_time inputs)
    pub ends : latest_of plan part c.turn (newest_input_time inputs) ≤ plan.end_time
    pub each : (i x : ℕ) (e : Exchange) (input : Input) → slice_get (received plan part) i ≡ Some x → slice_get plan.exchanges x ≡ Some e
        → slice_get inputs i ≡ Some input
        → IsInput c.turn.start (latest_of plan part c.turn (newest_input_time inputs)) e input.wave

  -- a window is repeated only below the greatest number of iterations
  abbrev pub MayJudge : Verdict → Type 0
  MayJudge Again = c.turn.iteration < option_map_or (iterations_of plan) (group_of plan part) 0
  MayJudge Converged = Unit {0}
  MayJudge AtLimit = Unit {0}
  MayJudge _ = ⊥

  -- a fault of the participant's scheme in this turn
  pub record IsOfTurn (scheme window iteration : ℕ) : Type 0 where
    pub scheme_own : group_of plan part ≡ Some scheme
    pub window_now : window ≡ c.turn.window
    pub iteration_now : iteration ≡ c.turn.iteration

  abbrev pub MayFault : Fault → Type 0
  MayFault (Relax scheme window iteration x time component) = IsOfTurn scheme window iteration
  MayFault (StrictMeasure scheme window iteration measure) = IsOfTurn scheme window iteration
  MayFault _ = ⊥

  abbrev pub MayAnswer : EventKind → Reply → Type 0
  MayAnswer PostMeshKind Posted = Unit {0}
  MayAnswer TakeMeshesKind (Meshes meshes) = AreMeshes meshes
  MayAnswer TakeMeshesKind (Cut who) = Unit {0}
  MayAnswer PostKind Posted = Unit {0}
  MayAnswer JudgeKind (Judged verdict) = MayJudge verdict
  MayAnswer JudgeKind (Faulted fault) = MayFault fault
  MayAnswer JudgeKind (Cut who) = Unit {0}
  MayAnswer TakeKind (Inputs inputs) = AreInputs inputs
  MayAnswer TakeKind (Cut who) = Unit {0}
  MayAnswer StopKind Over = Unit {0}
  MayAnswer EndKind Over = Unit {0}
  MayAnswer _ _ = ⊥

  -- an event is out, and this may be its reply
  pub record IsReply (reply : Reply) : Type 0 where
    pub kind : EventKind
    pub is_out : c.out ≡ Some kind
    pub may_answer : MayAnswer kind reply

  -- a fault of its scheme ends the participant: a value that overflows, or a strict measure that does not hold
  abbrev pub ending_by : Fault → ApiErr
  ending_by (StrictMeasure scheme window iteration measure) = NotConverged (StrictMeasure scheme window iteration measure)
  ending_by fault = Overflow fault

  -- the Stop that was queued for an overflow is made
  abbrev pub over_ending : EventKind → Option ApiErr
  over_ending StopKind = option_map Overflow c.overflow
  over_ending kind = None

  -- what is answered as an error once the reply to an event of this kind is taken
  abbrev pub ending_of : Reply → EventKind → Option ApiErr
  ending_of Over kind = over_ending kind
  ending_of (Faulted fault) kind = Some (ending_by fault)
  ending_of (Cut who) kind = Some (PeerEnded who)
  ending_of reply kind = None

  -- the same of the event that is out
  abbrev pub ending_in : Reply → Option ApiErr
  ending_in reply = option_and_then (ending_of reply) c.out
