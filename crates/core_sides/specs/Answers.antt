-- What a core tells of a participant, and what it answers to an event. The coupling documentation has the usual loop; the answers are the project's own.
use Rattle.std.specs.Prelude.{ℕ, if◌then◌else◌, List, map, filter_map, zip, Option, Some, None, is_some, Result, Ok, Err, option_map, slice_get}
use Rattle.std.specs.Option.{option_map_or}
use Rattle.mesh_data.specs.declared.any_mesh.AnyMesh.{AnyMesh}
use Rattle.cpl_plan.specs.Windows.{window_end}
use Rattle.cpl_plan.specs.declared.parts.PlanParts.{PlanParts}
use Rattle.cpl_plan.specs.declared.words.Fault.{Fault}
use Rattle.cpl_plan.specs.declared.words.Verdict.TheVariants.{Again, Converged, AtLimit}
use Rattle.coupled_loop.specs.Numbered.{put}
use Rattle.coupled_loop.specs.Endings.{Ending as LoopEnding, done, early, faulted, no_memory, cut, Judgement, again, converged, at_limit, refused}
use Rattle.coupled_loop.specs.CoreState.{Place, sending, collecting, opening, taking, within, judging, has_ended, look_in, turn_at}
use Rattle.coupled_loop.specs.CoreStep.{sends_meshes, takes_meshes, posts, takes, judges, stops, lacks_memory, ends, is_cut, posted, meshes, taken, judged, cut_off, over, ends_with, cut_by, waits_for}
use Rattle.coupled_loop.specs.PlanFrames.{window_maker, ends_made}
use Rattle.wave_coupling.specs.Posts.{received, newest_time}
use Rattle.wave_coupling.specs.InputWave.{InputWave}
use Rattle.wave_coupling.specs.Known.{received_meshes}
use Rattle.wave_coupling.specs.Coupling.{wave_frame}
use Rattle.core_sides.specs.CoreWords.{WaveState, WaveSide, WaveAct, WaveReply, WaveEntry, wave_step}
use Rattle.core_sides.specs.PostedMeshes.{mesh_among}
use Rattle.core_sides.specs.declared.event.Event.{Event}
use Rattle.core_sides.specs.declared.event.Event.TheVariants.{PostMesh, TakeMeshes, Post as PostEvent, Judge as JudgeEvent, Take as TakeEvent, Stop, End as EndEvent}
use Rattle.core_sides.specs.declared.event.StopCause.TheVariants.{Fault as ByFault, NoMemory as ByNoMemory}
use Rattle.core_sides.specs.declared.event.Reply.{Reply}
use Rattle.core_sides.specs.declared.event.Reply.TheVariants.{Posted, Meshes, Judged, Faulted, Inputs as InputsReply, Cut, Over}
use Rattle.core_sides.specs.declared.event.Input.{Input}
use Rattle.core_sides.specs.declared.event.Enabled.{Enabled}
use Rattle.core_sides.specs.declared.event.Enabled.TheVariants.{Yes, CutBy, Missing, Ended}
use Rattle.core_sides.specs.declared.event.NextKind.{NextKind}
use Rattle.core_sides.specs.declared.event.NextKind.TheVariants.{PostMesh as PostMeshNext, TakeMeshes as TakeMeshesNext, Post as PostNext, Judge as JudgeNext, Take as TakeNext, End as EndNext, None as NoNext}
use Rattle.core_sides.specs.declared.event.Ending.{Ending}
use Rattle.core_sides.specs.declared.event.Ending.TheVariants.{Done, Early, Faulted as FaultedEnding, NoMemory, Cut as CutEnding}
use Rattle.core_sides.specs.declared.event.CoreErr.{CoreErr}
use Rattle.core_sides.specs.declared.event.CoreErr.TheVariants.{NotEnabled, Memory}

-- an event as what a participant asks of the core
abbrev pub act_of : Event → WaveAct
act_of (PostMesh all) = sends_meshes all
act_of TakeMeshes = takes_meshes
act_of (PostEvent post) = posts post
act_of JudgeEvent = judges
act_of TakeEvent = takes
act_of (Stop (ByFault fault)) = stops fault
act_of (Stop ByNoMemory) = lacks_memory
act_of EndEvent = ends

-- an ending, as the core tells it
abbrev pub ending_of : LoopEnding Fault → Ending
ending_of done = Done
ending_of early = Early
ending_of (faulted fault) = FaultedEnding fault
ending_of no_memory = NoMemory
ending_of cut = CutEnding

module _ (plan : PlanParts) (sides : WaveState) (part : ℕ) where
  -- the kind of the next event at a place
  abbrev pub next_kind_at : Place → NextKind
  next_kind_at sending = PostMeshNext
  next_kind_at collecting = TakeMeshesNext
  next_kind_at opening = PostNext
  next_kind_at (taking w k) = if (wave_frame plan).is_there (look_in sides) w then TakeNext else EndNext
  next_kind_at (within w k) = PostNext
  next_kind_at (judging scheme w k) = JudgeNext

  abbrev pub next_kind_in : NextKind
  next_kind_in = if has_ended (sides part) then NoNext else next_kind_at (sides part).place

  abbrev pub ending_in : Option Ending
  ending_in = option_map ending_of (sides part).ending

  abbrev pub position_in : ℕ × ℕ
  position_in = turn_at (sides part).place

  -- whether the next event is enabled, becomes a cut, or waits, by whom it is cut and for whom it waits
  abbrev pub enabled_by : (who owner : Option ℕ) → Enabled
  enabled_by (Some who) owner = CutBy who
  enabled_by None (Some owner) = Missing owner (turn_at (sides owner).place).0 (turn_at (sides owner).place).1
  enabled_by None None = Yes

  abbrev pub enabled_in : Enabled
  enabled_in =
      if has_ended (sides part) then Ended
      else enabled_by (cut_by (wave_frame plan) sides part) (waits_for (wave_frame plan) sides part)

  -- a reply, as the core tells it: of the meshes of an owner the one that is received, and the waves with the exchanges' numbers
  abbrev pub mesh_received : (number : ℕ) → List AnyMesh → Option AnyMesh
  mesh_received number all = option_map_or (λ m. mesh_among plan m.owner number all) (slice_get plan.meshes number) None

  abbrev pub input_of : (x : ℕ) → InputWave → Input
  input_of x input = record { exchange = x; source_window = input.source_window; source_iteration = input.source_iteration; wave = input.wave }

  abbrev pub verdict_shown : Judgement Fault → Reply
  verdict_shown again = Judged Again
  verdict_shown converged = Judged Converged
  verdict_shown at_limit = Judged AtLimit
  verdict_shown (refused fault) = Faulted fault

  abbrev pub shown : WaveReply → Reply
  shown posted = Posted
  shown (meshes all) = Meshes (filter_map (λ at. mesh_received at.0 at.1) (zip (received_meshes plan part) all))
  shown (taken inputs) = InputsReply (map (λ at. input_of at.0 at.1) (zip (received plan part) inputs.waves))
  shown (judged judgement) = verdict_shown judgement
  shown cut_off = Over
  shown over = Over

  -- the answer to an event, by what it makes, by whom it is cut and for whom it waits
  abbrev pub answer_by : Option (WaveReply × WaveSide) → (who owner : Option ℕ) → Result Reply CoreErr
  answer_by (Some made) who owner = Ok (shown made.0)
  answer_by None (Some who) owner = Ok (Cut who)
  answer_by None None (Some owner) = Err (NotEnabled owner (turn_at (sides owner).place).0 (turn_at (sides owner).place).1)
  answer_by None None None = Err Memory

  abbrev pub answer_in : WaveAct → Result Reply CoreErr
  answer_in act =
      answer_by (wave_step plan sides part act) (cut_by (wave_frame plan) sides part) (waits_for (wave_frame plan) sides part)

  -- what is then made: the event, or its cut
  abbrev pub made_in : WaveAct → WaveAct
  made_in act = if is_some (wave_step plan sides part act) then act else is_cut

  abbrev pub entry_in : WaveAct → WaveEntry
  entry_in act = record { part = part; act = made_in act }

  abbrev pub side_by : Option (WaveReply × WaveSide) → WaveSide
  side_by (Some made) = made.1
  side_by None = ends_with cut (sides part)

  -- the state after it
  abbrev pub state_after : WaveAct → WaveState
  state_after act = put sides part (side_by (wave_step plan sides part act))

-- when a window ends, as far as it is told
abbrev pub window_end_in : PlanParts → WaveState → (w : ℕ) → Option ℕ
window_end_in plan sides w = window_end plan (ends_made newest_time (look_in sides) (window_maker plan) w) w
