-- What a participant's course comes to by a step.
use Rattle.std.proofs.Common.{◌≡◌, ℕ, ◌+◌, ◌-◌, ◌^◌, min, Bool, false, if◌then◌else◌, List, [], ◌∷◌, ◌++◌, map, Option, Some, is_some, Result, Ok, Err, All, refl, ap, sym, ◌∙◌}
use Rattle.std.specs.Prelude.{MatchResult, option_map}
use Rattle.mesh_data.specs.declared.any_mesh.AnyMesh.{AnyMesh}
use Rattle.cpl_plan.specs.declared.parts.PlanParts.{PlanParts}
use Rattle.cpl_plan.specs.declared.words.Fault.{Fault}
use Rattle.cpl_plan.specs.declared.words.WatchRow.{WatchRow}
use Rattle.core_sides.specs.declared.event.Event.TheVariants.{Post as PostEvent, Judge as JudgeEvent, Stop as StopEvent}
use Rattle.core_sides.specs.declared.event.StopCause.TheVariants.{Fault as ByFault}
use Rattle.coupled_loop.specs.PlanFrames.{group_of}
use Rattle.wave_coupling.specs.Posts.{Post}
use Rattle.wave_coupling.specs.Noted.{Written}
use Rattle.wave_coupling.specs.PostedWaves.{post_of}
use Rattle.participant_words.specs.AfterDeed.{judge_next, stepped, window_ended}
use Rattle.participant_words.specs.Course.{Asked, Course}
use Rattle.participant_words.specs.KnownByReply.{known_by}
use Rattle.participant_words.specs.Replied.{posting}
use Rattle.participant_words.specs.declared.phase.Phase.{Phase}
use Rattle.participant_words.specs.declared.phase.Phase.TheVariants.{Pending}
use Rattle.participant_tables.specs.Queued.{Queued}
use Rattle.participant_tables.specs.WriteKept.{WriteKept}
use Rattle.participant_tables.specs.WriteSteps.{cleared, sampled}
use Rattle.participant_tables.specs.declared.clock.Clock.{Clock}
use Rattle.participant_waves.specs.declared.kept_input.KeptInput.{KeptInput}
use Rattle.participant_state.specs.Kept.{buffers_of, input_kept, kind_out, turn_of, written_in}
use Rattle.participant_state.proofs.ListPlaces.{map_all_untouched}
use Rattle.participant_state.proofs.TablesMean.{same_written}
use Rattle.participant_state.proofs.StepKept.{after_step, buffers_after, clock_after, written_after}

-- what a participant does not change by a step
pub record Unchanged : Type 0 where
  pub own : List AnyMesh
  pub received : List AnyMesh
  pub asked : Asked
  pub sources : List (ℕ × ℕ)
  pub rows : List WatchRow

module _ (u : Unchanged) (inputs : List KeptInput) where
  abbrev pub course_of : Phase → Queued → Option Fault → Clock → (times : List ℕ) → List WriteKept → (steps : ℕ) → Course
  course_of phase queue overflow clock times writes steps = record {
    phase = phase;
    own = u.own;
    received = u.received;
    buffers = buffers_of writes;
    asked = u.asked;
    turn = turn_of clock inputs times writes;
    sources = u.sources;
    complete = clock.complete;
    queue = queue.waiting;
    out = option_map kind_out queue.out;
    overflow = overflow;
    steps = steps;
    rows = u.rows;
  }

  module _ (plan : PlanParts) (part : ℕ) (phase : Phase) (queue : Queued) (overflow : Option Fault) (clock : Clock) (times : List ℕ) (writes : List WriteKept) (steps dt : ℕ)
      (are : All (λ (e : WriteKept). map (λ s. s.time) e.samples ≡ times) writes)
      (new_clock : Clock) (new_times : List ℕ) (new_writes : List WriteKept) (new_steps : ℕ)
      (clock_is : new_clock ≡ clock_after dt clock) (times_are : new_times ≡ times ++ (clock.now + dt) ∷ [])
      (writes_are : new_writes ≡ after_step (clock.now + dt) writes) (steps_are : new_steps ≡ min (steps + 1) (2 ^ 64 - 1)) where
    by_parts : course_of phase queue overflow new_clock new_times new_writes new_steps
        ≡ course_of phase queue overflow (clock_after dt clock) (times ++ (clock.now + dt) ∷ []) (after_step (clock.now + dt) writes) (min (steps + 1) (2 ^ 64 - 1))
    by_parts = λ i. course_of phase queue overflow (clock_is i) (times_are i) (writes_are i) (steps_are i)

    by_step : course_of phase queue overflow (clock_after dt clock) (times ++ (clock.now + dt) ∷ []) (after_step (clock.now + dt) writes) (min (steps + 1) (2 ^ 64 - 1))
        ≡ stepped plan part dt (course_of phase queue overflow clock times writes steps)
    by_step =
        let written = written_after clock.window clock.iteration (clock.now + dt) times writes are in
        let buffers = buffers_after (clock.now + dt) writes in
        λ i. record {
          phase = phase;
          own = u.own;
          received = u.received;
          buffers = buffers i;
          asked = u.asked;
          turn = record {
            window = clock.window;
            iteration = clock.iteration;
            start = clock.start;
            now = clock.now + dt;
            latest = clock.latest;
            inputs = map input_kept inputs;
            written = written i;
          };
          sources = u.sources;
          complete = false;
          queue = queue.waiting;
          out = option_map kind_out queue.out;
          overflow = overflow;
          steps = min (steps + 1) (2 ^ 64 - 1);
          rows = u.rows;
        }

    -- a step within the window
    pub step_means : course_of phase queue overflow new_clock new_times new_writes new_steps ≡ stepped plan part dt (course_of phase queue overflow clock times writes steps)
    step_means = by_parts ∙ by_step

    -- the samples are those that were posted
    written_sampled : written_in clock.window clock.iteration new_times new_writes
        ≡ written_in clock.window clock.iteration (times ++ (clock.now + dt) ∷ []) (map (sampled (clock.now + dt)) writes)
    written_sampled =
        (λ i. written_in clock.window clock.iteration (times_are i) (writes_are i))
        ∙ same_written clock.window clock.iteration (times ++ (clock.now + dt) ∷ []) (after_step (clock.now + dt) writes) (map (sampled (clock.now + dt)) writes)
        (map_all_untouched (λ (e : WriteKept). e.samples) cleared (map (sampled (clock.now + dt)) writes) (λ e. refl))

    by_posting : window_ended plan part (course_of phase queue overflow new_clock new_times new_writes new_steps)
        ≡ posting (post_of plan part (known_by plan part u.own u.received) clock.window clock.iteration
        (written_in clock.window clock.iteration (times ++ (clock.now + dt) ∷ []) (map (sampled (clock.now + dt)) writes))) (judge_next plan part)
        (course_of Pending queue overflow new_clock new_times new_writes new_steps)
    by_posting =
        let windows : new_clock.window ≡ clock.window = ap (λ (k : Clock). k.window) clock_is in
        let iterations : new_clock.iteration ≡ clock.iteration = ap (λ (k : Clock). k.iteration) clock_is in
        (λ i. posting (post_of plan part (known_by plan part u.own u.received) (windows i) (iterations i) (written_in (windows i) (iterations i) new_times new_writes)) (judge_next plan part)
        (course_of Pending queue overflow new_clock new_times new_writes new_steps))
        ∙ ap (λ (written : List Written). posting (post_of plan part (known_by plan part u.own u.received) clock.window clock.iteration written) (judge_next plan part)
        (course_of Pending queue overflow new_clock new_times new_writes new_steps)) written_sampled

    by_post : (post : Result Post Fault) (next : Queued) (next_overflow : Option Fault) (judged : Bool) → next.out ≡ queue.out → judged ≡ is_some (group_of plan part)
        → MatchResult post (λ waves. next.waiting ≡ PostEvent waves ∷ (if judged then JudgeEvent ∷ [] else [])) (λ fault. next.waiting ≡ StopEvent (ByFault fault) ∷ [])
        → MatchResult post (λ _. next_overflow ≡ overflow) (λ fault. next_overflow ≡ Some fault)
        → (meant : Result Post (Option Fault)) → MatchResult post (λ waves. meant ≡ Ok waves) (λ fault. meant ≡ Err (Some fault))
        → course_of Pending next next_overflow new_clock new_times new_writes new_steps
        ≡ posting meant (judge_next plan part) (course_of Pending queue overflow new_clock new_times new_writes new_steps)
    by_post (Ok waves) next next_overflow judged out implicit waiting overflows meant is =
        let wait : next.waiting ≡ PostEvent waves ∷ judge_next plan part = waiting ∙ ap (λ (b : Bool). PostEvent waves ∷ (if b then JudgeEvent ∷ [] else [])) implicit in
        (λ i. course_of Pending (record { waiting = wait i; out = out i }) (overflows i) new_clock new_times new_writes new_steps)
        ∙ ap (λ (m : Result Post (Option Fault)). posting m (judge_next plan part) (course_of Pending queue overflow new_clock new_times new_writes new_steps)) (sym is)
    by_post (Err fault) next next_overflow judged out implicit waiting overflows meant is =
        (λ i. course_of Pending (record { waiting = waiting i; out = out i }) (overflows i) new_clock new_times new_writes new_steps)
        ∙ ap (λ (m : Result Post (Option Fault)). posting m (judge_next plan part) (course_of Pending queue overflow new_clock new_times new_writes new_steps)) (sym is)

    -- the last step of a window: its samples are posted, or the Stop waits for what is out of range
    pub end_means : (post : Result Post Fault) (next : Queued) (next_overflow : Option Fault) (judged : Bool) → next.out ≡ queue.out → judged ≡ is_some (group_of plan part)
        → MatchResult post (λ waves. next.waiting ≡ PostEvent waves ∷ (if judged then JudgeEvent ∷ [] else [])) (λ fault. next.waiting ≡ StopEvent (ByFault fault) ∷ [])
        → MatchResult post (λ _. next_overflow ≡ overflow) (λ fault. next_overflow ≡ Some fault)
        → MatchResult post (λ waves. post_of plan part (known_by plan part u.own u.received) clock.window clock.iteration
        (written_in clock.window clock.iteration (times ++ (clock.now + dt) ∷ []) (map (sampled (clock.now + dt)) writes)) ≡ Ok waves)
        (λ fault. post_of plan part (known_by plan part u.own u.received) clock.window clock.iteration
        (written_in clock.window clock.iteration (times ++ (clock.now + dt) ∷ []) (map (sampled (clock.now + dt)) writes)) ≡ Err (Some fault))
        → course_of Pending next next_overflow new_clock new_times new_writes new_steps
        ≡ window_ended plan part (stepped plan part dt (course_of phase queue overflow clock times writes steps))
    end_means post next next_overflow judged out implicit waiting overflows is =
        by_post post next next_overflow judged out implicit waiting overflows
        (post_of plan part (known_by plan part u.own u.received) clock.window clock.iteration
        (written_in clock.window clock.iteration (times ++ (clock.now + dt) ∷ []) (map (sampled (clock.now + dt)) writes))) is
        ∙ sym by_posting ∙ ap (window_ended plan part) step_means
