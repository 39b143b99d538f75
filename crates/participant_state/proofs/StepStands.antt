-- What stands of a participant after a step.
use Rattle.std.proofs.Common.{◌≡◌, inr, ℕ, ◌+◌, ◌<◌, ◌≤◌, Bool, true, false, if◌then◌else◌, List, [], ◌∷◌, ◌++◌, map, length, Option, None, is_some, Result, Ok, Err, refl, ap, ap₂, sym, subst, ◌∙◌, arith}
use Rattle.std.specs.Prelude.{MatchResult}
use Rattle.std.proofs.lemmas.List.{length-append}
use Rattle.mesh_data.specs.declared.any_mesh.AnyMesh.{AnyMesh}
use Rattle.cpl_plan.specs.declared.parts.PlanParts.{PlanParts}
use Rattle.cpl_plan.specs.declared.words.Fault.{Fault}
use Rattle.cpl_plan.specs.declared.words.WatchRow.{WatchRow}
use Rattle.core_sides.specs.declared.event.Event.{Event}
use Rattle.core_sides.specs.declared.event.Event.TheVariants.{Post as PostEvent, Judge as JudgeEvent, Stop as StopEvent}
use Rattle.core_sides.specs.declared.event.StopCause.TheVariants.{Fault as ByFault}
use Rattle.coupled_loop.specs.PlanFrames.{group_of}
use Rattle.wave_coupling.specs.Posts.{Post as Waves}
use Rattle.participant_words.specs.EventKinds.{kind_of}
use Rattle.participant_words.specs.Refusals.{refusal_of_begin_advance}
use Rattle.participant_words.specs.WatchShown.{watches}
use Rattle.participant_words.specs.declared.phase.EventKind.{EventKind}
use Rattle.participant_words.specs.declared.phase.EventKind.TheVariants.{Post, Judge, Stop}
use Rattle.participant_words.specs.declared.phase.Phase.{Phase}
use Rattle.participant_words.specs.declared.phase.Phase.TheVariants.{Running, Pending}
use Rattle.participant_tables.specs.Named.{Called}
use Rattle.participant_tables.specs.Queued.{Queued}
use Rattle.participant_tables.specs.WriteKept.{WriteKept}
use Rattle.participant_tables.specs.declared.clock.Clock.{Clock}
use Rattle.participant_tables.specs.declared.queue.Out.{Out}
use Rattle.participant_tables.specs.declared.read_table.ReadEntry.{ReadEntry}
use Rattle.participant_waves.specs.declared.kept_input.KeptInput.{KeptInput}
use Rattle.participant_waves.specs.declared.passages.Passages.{Passages}
use Rattle.participant_state.specs.Agenda.{agenda, out_first, judged_next, HasBegun, HasStepped, Stands, StandsIn}
use Rattle.participant_state.specs.Member.{Member}
use Rattle.call_parts.specs.RowsKept.{AreInOrder}
use Rattle.participant_state.specs.Together.{AreFilled, AreJoined, AreRead, IsInTime, IsOfPlan}
use Rattle.participant_state.proofs.StepKept.{after_step, clock_after, filled_after, in_time_after, of_plan_after, read_after}
use Rattle.participant_state.proofs.StepRefused.{granted_most, granted_running, granted_some, nothing_waits}

-- the kinds of the events that a turn's end lets wait
judged_kinds : (b : Bool) → map kind_of (if b then JudgeEvent ∷ [] else []) ≡ (if b then Judge ∷ [] else [])
judged_kinds true = refl
judged_kinds false = refl

module _ (plan : PlanParts) (part : ℕ) (names : Called) (own received : List AnyMesh) (passages : Option Passages) (reads : List ReadEntry) (inputs : List KeptInput) (rows : List WatchRow) where
  -- what stands between calls
  abbrev pub AllStand : (writes : List WriteKept) → (times : List ℕ) → Clock → Queued → Phase → Type 0
  AllStand writes times clock queue phase =
      IsOfPlan plan part names own writes reads × AreFilled own writes times × IsInTime plan part clock times × AreRead own reads clock inputs
      × AreJoined plan part own received passages × Stands plan part own clock passages inputs times (agenda queue)
      × StandsIn plan part own clock passages inputs times phase (agenda queue) × AreInOrder (length (watches plan part)) rows

  -- what a granted step finds
  pub record CanStep (times : List ℕ) (clock : Clock) (queue : Queued) (phase : Phase) (dt : ℕ) : Type 0 where
    pub running : phase ≡ Running
    pub some : 1 ≤ dt
    pub within : clock.now + dt ≤ clock.latest
    pub room : length times < 1024
    pub none : agenda queue ≡ []
    pub begun : HasBegun plan part clock passages inputs

  module _ (writes : List WriteKept) (times : List ℕ) (clock : Clock) (queue : Queued) (phase : Phase) (dt : ℕ) (stand : AllStand writes times clock queue phase) where
    pub can_step : (m : Member) → refusal_of_begin_advance m.plan m.part m.course dt ≡ None → m.course.phase ≡ phase
        → m.course.turn.now ≡ clock.now → m.course.turn.latest ≡ clock.latest → CanStep times clock queue phase dt
    can_step m granted in_phase now latest =
        let running : phase ≡ Running = sym in_phase ∙ granted_running m.plan m.part m.course dt granted in
        let stands = subst (λ (p : Phase). StandsIn plan part own clock passages inputs times p (agenda queue)) running stand.6 in
        let most = granted_most m.plan m.part m.course dt granted in
        let here : clock.now ≤ clock.latest = stand.2.within in
        record {
          running = running;
          some = granted_some m.plan m.part m.course dt granted;
          within = omega (arith, most, now, latest, here);
          room = stands.2;
          none = stands.0;
          begun = stands.1;
        }

    module _ (can : CanStep times clock queue phase dt) where
      still_begun : HasBegun plan part (clock_after dt clock) passages inputs
      still_begun = record {
        in_window = record { joined = can.begun.in_window.joined; window = can.begun.in_window.window; there = can.begun.in_window.there };
        taken = can.begun.taken;
      }

      -- a step within the window
      pub step_stands : length times + 1 < 1024 → AllStand (after_step (clock.now + dt) writes) (times ++ (clock.now + dt) ∷ []) (clock_after dt clock) queue phase
      step_stands more =
          let long : length (times ++ (clock.now + dt) ∷ []) < 1024 = omega (arith, more, length-append times ((clock.now + dt) ∷ [])) in (
            of_plan_after plan part names own writes reads (clock.now + dt) stand.0,
            filled_after own writes times stand.1 (clock.now + dt) can.room,
            in_time_after plan part clock times dt can.within stand.2,
            read_after own reads clock inputs dt stand.3,
            stand.4,
            subst (λ (waiting : List EventKind). Stands plan part own (clock_after dt clock) passages inputs (times ++ (clock.now + dt) ∷ []) waiting) (sym can.none) tt,
            subst (λ (p : Phase). StandsIn plan part own (clock_after dt clock) passages inputs (times ++ (clock.now + dt) ∷ []) p (agenda queue)) (sym can.running) (can.none, still_begun, long),
            stand.7,
          )

      has_stepped : HasStepped plan part (clock_after dt clock) passages inputs (times ++ (clock.now + dt) ∷ [])
      has_stepped = record { begun = still_begun; stepped = omega (arith, length-append times ((clock.now + dt) ∷ [])) }

      end_agenda : (post : Result Waves Fault) (next : Queued) (judged : Bool) → next.out ≡ queue.out → judged ≡ is_some (group_of plan part)
          → MatchResult post (λ waves. next.waiting ≡ PostEvent waves ∷ (if judged then JudgeEvent ∷ [] else [])) (λ fault. next.waiting ≡ StopEvent (ByFault fault) ∷ [])
          → Stands plan part own (clock_after dt clock) passages inputs (times ++ (clock.now + dt) ∷ []) (agenda next)
      end_agenda (Ok waves) next judged out implicit waiting =
          let is : agenda next ≡ Post ∷ judged_next plan part =
          ap₂ (λ (o : Option Out) (es : List Event). out_first o ++ map kind_of es) (out ∙ (nothing_waits queue can.none).1) waiting
          ∙ ap (λ (kinds : List EventKind). Post ∷ kinds) (judged_kinds judged ∙ ap (λ (b : Bool). if b then Judge ∷ [] else []) implicit) in
          subst (λ (kinds : List EventKind). Stands plan part own (clock_after dt clock) passages inputs (times ++ (clock.now + dt) ∷ []) kinds) (sym is) (inr (has_stepped, refl))
      end_agenda (Err fault) next judged out implicit waiting =
          let is : agenda next ≡ Stop ∷ [] =
          ap₂ (λ (o : Option Out) (es : List Event). out_first o ++ map kind_of es) (out ∙ (nothing_waits queue can.none).1) waiting in
          subst (λ (kinds : List EventKind). Stands plan part own (clock_after dt clock) passages inputs (times ++ (clock.now + dt) ∷ []) kinds) (sym is) refl

      -- the last step of a window
      pub end_stands : (post : Result Waves Fault) (next : Queued) (judged : Bool) → next.out ≡ queue.out → judged ≡ is_some (group_of plan part)
          → MatchResult post (λ waves. next.waiting ≡ PostEvent waves ∷ (if judged then JudgeEvent ∷ [] else [])) (λ fault. next.waiting ≡ StopEvent (ByFault fault) ∷ [])
          → AllStand (after_step (clock.now + dt) writes) (times ++ (clock.now + dt) ∷ []) (clock_after dt clock) next Pending
      end_stands post next judged out implicit waiting = (
        of_plan_after plan part names own writes reads (clock.now + dt) stand.0,
        filled_after own writes times stand.1 (clock.now + dt) can.room,
        in_time_after plan part clock times dt can.within stand.2,
        read_after own reads clock inputs dt stand.3,
        stand.4,
        end_agenda post next judged out implicit waiting,
        tt,
        stand.7,
      )

  -- the same of what is kept, told by what has become of it
  pub stand_by : (old new : List WriteKept) (old_times new_times : List ℕ) (old_clock new_clock : Clock) (queue : Queued) (phase : Phase)
      → new ≡ old → new_times ≡ old_times → new_clock ≡ old_clock → AllStand old old_times old_clock queue phase → AllStand new new_times new_clock queue phase
  stand_by old new old_times new_times old_clock new_clock queue phase writes times clock stand =
      subst (λ (w : List WriteKept). AllStand w new_times new_clock queue phase) (sym writes)
      (subst (λ (t : List ℕ). AllStand old t new_clock queue phase) (sym times)
      (subst (λ (k : Clock). AllStand old old_times k queue phase) (sym clock) stand))
