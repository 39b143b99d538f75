-- What a call that is granted tells of the participant's phase, and of its step.
use Rattle.std.proofs.Common.{◌≡◌, ℕ, ◌+◌, ◌<◌, ◌≤◌, Bool, true, false, not, ◌&&◌, nat_eq, nat_lt, List, [], ◌∷◌, length, Option, Some, None, refl, ap, sym, ◌∙◌, arith}
use Rattle.std.proofs.lemmas.Bool.{false≢true}
use Rattle.std.proofs.lemmas.Bool.Decides.{nat_tests}
use Rattle.core_sides.specs.declared.event.Event.{Event}
use Rattle.cpl_plan.specs.declared.parts.PlanParts.{PlanParts}
use Rattle.participant_tables.specs.Queued.{Queued}
use Rattle.participant_tables.specs.declared.queue.Out.{Out}
use Rattle.participant_words.specs.Course.{Course}
use Rattle.participant_words.specs.Phases.{not_allowed}
use Rattle.participant_words.specs.Begun.{ends_window}
use Rattle.participant_words.specs.Questions.{most_step, owes_checkpoint}
use Rattle.participant_words.specs.Refusals.{Refusal, first_of, or_then, where_holds, refusal_of_begin_advance, is_one_too_many}
use Rattle.participant_words.specs.declared.api_err.ApiErr.{ApiErr}
use Rattle.participant_words.specs.declared.api_err.ApiErr.TheVariants.{CheckpointOwed, ZeroStep, StepTooLong, TooManySteps}
use Rattle.participant_words.specs.declared.phase.Call.TheVariants.{BeginAdvance, ReadData}
use Rattle.participant_words.specs.declared.phase.Phase.{Phase}
use Rattle.participant_words.specs.declared.phase.Phase.TheVariants.{Fresh, Joining, Running, Pending, Done, Final, Stopped}
use Rattle.participant_state.specs.Agenda.{agenda}

-- a participant steps, and reads, in Running alone
pub steps_running : (phase : Phase) → not_allowed BeginAdvance phase ≡ None → phase ≡ Running
steps_running Fresh is = cc
steps_running Joining is = cc
steps_running Running is = refl
steps_running Pending is = cc
steps_running Done is = cc
steps_running Final is = cc
steps_running Stopped is = cc

pub reads_running : (phase : Phase) → not_allowed ReadData phase ≡ None → phase ≡ Running
reads_running Fresh is = cc
reads_running Joining is = cc
reads_running Running is = refl
reads_running Pending is = cc
reads_running Done is = cc
reads_running Final is = cc
reads_running Stopped is = cc

-- where no cause applies the first does not, and no later one
pub first_none : (one later : Refusal) → or_then one later ≡ None → one ≡ None
first_none None later is = refl
first_none (Some cause) later is = cc

pub later_none : (one later : Refusal) → or_then one later ≡ None → later ≡ None
later_none None later is = is
later_none (Some cause) later is = cc

pub holds_not : (b : Bool) (cause : ApiErr) → where_holds b cause ≡ None → b ≡ false
holds_not true cause is = cc
holds_not false cause is = refl

-- nothing waits, and nothing is out
pub nothing_waits : (queue : Queued) → agenda queue ≡ [] → (queue.waiting ≡ []) × (queue.out ≡ None)
nothing_waits queue none = by queue.out queue.waiting none
  where
    by : (out : Option Out) (waiting : List Event) → agenda (record { waiting = waiting; out = out }) ≡ [] → (waiting ≡ []) × (out ≡ None)
    by None [] none = (refl, refl)
    by None (event ∷ waiting) none = cc
    by (Some out) waiting none = cc

-- a step that is granted
module _ (plan : PlanParts) (part : ℕ) (c : Course) (dt : ℕ) (granted : refusal_of_begin_advance plan part c dt ≡ None) where
  after_phase : first_of (where_holds (owes_checkpoint plan part c) CheckpointOwed
      ∷ where_holds (nat_eq dt 0) ZeroStep ∷ where_holds (nat_lt (most_step c) dt) (StepTooLong (most_step c)) ∷ where_holds (is_one_too_many plan part c dt) TooManySteps ∷ []) ≡ None
  after_phase = later_none (not_allowed BeginAdvance c.phase) _ granted

  after_owed : first_of (where_holds (nat_eq dt 0) ZeroStep ∷ where_holds (nat_lt (most_step c) dt) (StepTooLong (most_step c)) ∷ where_holds (is_one_too_many plan part c dt) TooManySteps ∷ []) ≡ None
  after_owed = later_none (where_holds (owes_checkpoint plan part c) CheckpointOwed) _ after_phase

  after_zero : first_of (where_holds (nat_lt (most_step c) dt) (StepTooLong (most_step c)) ∷ where_holds (is_one_too_many plan part c dt) TooManySteps ∷ []) ≡ None
  after_zero = later_none (where_holds (nat_eq dt 0) ZeroStep) _ after_owed

  after_long : first_of (where_holds (is_one_too_many plan part c dt) TooManySteps ∷ []) ≡ None
  after_long = later_none (where_holds (nat_lt (most_step c) dt) (StepTooLong (most_step c))) _ after_zero

  pub granted_running : c.phase ≡ Running
  granted_running = steps_running c.phase (first_none (not_allowed BeginAdvance c.phase) _ granted)

  pub granted_some : 1 ≤ dt
  granted_some =
      let apart : nat_eq dt 0 ≡ false = holds_not (nat_eq dt 0) ZeroStep (first_none (where_holds (nat_eq dt 0) ZeroStep) _ after_owed) in
      grind (arith, nat_tests)

  pub granted_most : dt ≤ most_step c
  granted_most =
      let short : nat_lt (most_step c) dt ≡ false = holds_not (nat_lt (most_step c) dt) (StepTooLong (most_step c)) (first_none (where_holds (nat_lt (most_step c) dt) (StepTooLong (most_step c))) _ after_zero) in
      grind (arith, nat_tests)

  -- another step may follow where this one does not end the window
  pub granted_more : ends_window plan part c.turn dt ≡ false → length c.turn.written < 1024 → length c.turn.written + 1 < 1024
  granted_more within room =
      let few : (nat_eq (length c.turn.written + 1) 1024 && not (ends_window plan part c.turn dt)) ≡ false = holds_not (is_one_too_many plan part c dt) TooManySteps (first_none (where_holds (is_one_too_many plan part c dt) TooManySteps) None after_long) in
      by (nat_eq (length c.turn.written + 1) 1024) refl (ap (λ b. nat_eq (length c.turn.written + 1) 1024 && not b) (sym within) ∙ few)
    where
      by : (b : Bool) → nat_eq (length c.turn.written + 1) 1024 ≡ b → (nat_eq (length c.turn.written + 1) 1024 && true) ≡ false → length c.turn.written + 1 < 1024
      by true is none = absurd (false≢true (sym none ∙ ap (λ b. b && true) is))
      by false is none = grind (arith, nat_tests)
