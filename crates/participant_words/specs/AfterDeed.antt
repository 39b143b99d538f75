-- What one deed of a participant changes, and what a list of them comes to. From the coupling documentation's calls; that buffers are zero after each step, and the events, are the project's own.
use Rattle.std.specs.Prelude.{ℕ, ℤ, ◌+◌, ◌-◌, ◌^◌, min, Bool, if◌then◌else◌, is_some, false, true, List, [], ◌∷◌, ◌++◌, map, length, drop, fold, slice_get, None, option_map}
use Rattle.cpl_plan.specs.declared.parts.PlanParts.{PlanParts}
use Rattle.cpl_plan.specs.declared.words.Fault.TheVariants.{Solver, Steps}
use Rattle.cpl_plan.specs.declared.words.StopWish.{StopWish}
use Rattle.cpl_plan.specs.declared.words.StopWish.TheVariants.{Fault as FaultWish, Steps as StepsWish, NoMemory as NoMemoryWish}
use Rattle.coupled_loop.specs.PlanFrames.{group_of}
use Rattle.wave_coupling.specs.Noted.{Written}
use Rattle.wave_coupling.specs.PostedWaves.{post_of}
use Rattle.core_sides.specs.declared.event.Event.{Event}
use Rattle.core_sides.specs.declared.event.Event.TheVariants.{PostMesh, TakeMeshes, Judge, Stop, End}
use Rattle.core_sides.specs.declared.event.StopCause.{StopCause}
use Rattle.core_sides.specs.declared.event.StopCause.TheVariants.{Fault as ByFault, NoMemory as ByNoMemory}
use Rattle.participant_words.specs.Deeds.{Deed, sets_vertices, writes, asks_initial, asks_writing, asks_reading, initializes, advances, finalizes, stops, hands_out, puts_back, takes}
use Rattle.participant_words.specs.EventKinds.{kind_of}
use Rattle.participant_words.specs.Course.{Course, opening, known, written_next}
use Rattle.participant_words.specs.Entries.{changed_at, with_points, grown_buffers, written_buffers, zeros}
use Rattle.participant_words.specs.Begun.{ends_window}
use Rattle.participant_words.specs.Replied.{posting, replied}
use Rattle.participant_words.specs.declared.phase.Phase.{Phase}
use Rattle.participant_words.specs.declared.phase.Phase.TheVariants.{Joining, Pending, Final, Stopped}

abbrev pub has_stopped : Phase → Bool
has_stopped Stopped = true
has_stopped phase = false

-- the first event is handed out
abbrev pub handed_out : Course → Course
handed_out c = record c { out = option_map kind_of (slice_get c.queue 0); queue = drop 1 c.queue }

module _ (plan : PlanParts) (part : ℕ) where
  abbrev pub with_vertices : (mesh : ℕ) → (points : List (List ℤ)) → Course → Course
  with_vertices mesh points c = record c {
    own = changed_at (with_points points) mesh c.own;
    buffers = grown_buffers plan part mesh (length points) c.buffers;
  }

  -- what is written at the end of a step of so many ticks
  abbrev pub written_then : Course → (dt : ℕ) → Written
  written_then c dt = record {
    window = c.turn.window;
    iteration = c.turn.iteration;
    step = length c.turn.written + 1;
    time = c.turn.now + dt;
    values = written_next c;
  }

  -- a step is accepted: what was written is its sample, and is zero again
  abbrev pub stepped : (dt : ℕ) → Course → Course
  stepped dt c = record c {
    turn = record c.turn { now = c.turn.now + dt; written = c.turn.written ++ written_then c dt ∷ [] };
    buffers = map (λ values. zeros (length values)) c.buffers;
    complete = false;
    steps = min (c.steps + 1) (2 ^ 64 - 1);
  }

  -- a scheme's member is judged after its post
  abbrev pub judge_next : List Event
  judge_next = if is_some (group_of plan part) then Judge ∷ [] else []

  -- the window is at its end: its samples are posted
  abbrev pub window_ended : Course → Course
  window_ended c =
      posting (post_of plan part (known plan part c) c.turn.window c.turn.iteration c.turn.written) judge_next
      (record c { phase = Pending })

  abbrev pub advanced : (dt : ℕ) → Course → Course
  advanced dt c = if ends_window plan part c.turn dt then window_ended (stepped dt c) else stepped dt c

  -- from Stopped a participant is through at once
  abbrev pub finalized : Course → Course
  finalized c =
      if has_stopped c.phase then record c { phase = Final } else record c { phase = Pending; queue = End ∷ []; out = None }

  -- a fault is of the turn in which the participant is, at the step after those that were accepted
  abbrev pub cause_of : Course → StopWish → StopCause
  cause_of c (FaultWish code) = ByFault (Solver part c.turn.window c.turn.iteration (length c.turn.written + 1) code)
  cause_of c StepsWish = ByFault (Steps part c.turn.window c.turn.iteration)
  cause_of c NoMemoryWish = ByNoMemory

  abbrev pub after : Course → Deed → Course
  after c (sets_vertices mesh points) = with_vertices mesh points c
  after c (writes entry vertices rows) = record c { buffers = written_buffers plan part entry vertices rows c.buffers }
  after c asks_initial = record c { asked = record c.asked { initial = true } }
  after c asks_writing = record c { asked = record c.asked { writing = true } }
  after c asks_reading = record c { asked = record c.asked { reading = true } }
  after c initializes = record c { phase = Joining; queue = PostMesh c.own ∷ TakeMeshes ∷ []; out = None }
  after c (advances dt) = advanced dt c
  after c finalizes = finalized c
  after c (stops why) = record c { phase = Pending; queue = Stop (cause_of c why) ∷ []; out = None; overflow = None }
  after c hands_out = handed_out c
  after c (puts_back event) = record c { queue = event ∷ c.queue; out = None }
  after c (takes reply) = replied plan part c.out reply c

  -- what a participant's deeds have come to
  abbrev pub course : List Deed → Course
  course deeds = fold after (opening plan part) deeds
