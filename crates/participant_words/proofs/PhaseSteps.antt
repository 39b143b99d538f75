-- The phases that deeds lead to.
use Rattle.std.proofs.Common.{◌≡◌, ◌≢◌, ℕ, true, false, List, Option, Some, None, Result, Ok, Err, is_some, nat_eq, if◌then◌else◌, refl, ap, ◌∙◌}
use Rattle.cpl_plan.specs.declared.parts.PlanParts.{PlanParts}
use Rattle.cpl_plan.specs.declared.words.Fault.{Fault}
use Rattle.coupled_loop.specs.PlanFrames.{group_of}
use Rattle.wave_coupling.specs.Posts.{Post}
use Rattle.wave_coupling.specs.InputWave.{InputWave}
use Rattle.wave_coupling.specs.PostedWaves.{post_of}
use Rattle.core_sides.specs.declared.event.Event.{Event}
use Rattle.core_sides.specs.declared.event.Reply.{Reply}
use Rattle.participant_words.specs.Course.{Course, known}
use Rattle.participant_words.specs.Begun.{ends_window, is_last}
use Rattle.participant_words.specs.Replied.{posting, completed, posted, turn_begun, answered, replied}
use Rattle.participant_words.specs.AfterDeed.{advanced, stepped, window_ended, judge_next, finalized, has_stopped}
use Rattle.participant_words.specs.declared.phase.EventKind.{EventKind}
use Rattle.participant_words.specs.declared.phase.Phase.{Phase}
use Rattle.participant_words.specs.declared.phase.Phase.TheVariants.{Fresh, Joining, Running, Pending, Done, Final, Stopped}

pub posting-phase : (post : Result Post (Option Fault)) (rest : List Event) (c : Course) → (posting post rest c).phase ≡ c.phase
posting-phase (Ok waves) rest c = refl
posting-phase (Err (Some fault)) rest c = refl
posting-phase (Err None) rest c = refl

module _ (plan : PlanParts) (part : ℕ) (c : Course) where
  pub within : (dt : ℕ) → ends_window plan part c.turn dt ≡ false → (advanced plan part dt c).phase ≡ c.phase
  within dt off = ap (λ b. (if b then window_ended plan part (stepped plan part dt c) else stepped plan part dt c).phase) off

  pub at_end : (dt : ℕ) → ends_window plan part c.turn dt ≡ true → (advanced plan part dt c).phase ≡ Pending
  at_end dt is =
      ap (λ b. (if b then window_ended plan part (stepped plan part dt c) else stepped plan part dt c).phase) is
      ∙ posting-phase (post_of plan part (known plan part (stepped plan part dt c)) c.turn.window c.turn.iteration (stepped plan part dt c).turn.written) (judge_next plan part)
      (record (stepped plan part dt c) { phase = Pending })

  pub finalizes_from : (phase : Phase) → phase ≢ Stopped → has_stopped phase ≡ false
  finalizes_from Fresh off = refl
  finalizes_from Joining off = refl
  finalizes_from Running off = refl
  finalizes_from Pending off = refl
  finalizes_from Done off = refl
  finalizes_from Final off = refl
  finalizes_from Stopped off = absurd (off refl)

  pub pending_then : has_stopped c.phase ≡ false → (finalized plan part c).phase ≡ Pending
  pending_then off = rw off refl

  pub last_done : is_last plan c.turn ≡ true → (completed plan part c).phase ≡ Done
  last_done is = rw is refl

  pub not_last : is_last plan c.turn ≡ false → (completed plan part c).phase ≡ c.phase
  not_last is = rw is refl

  pub post_done : nat_eq c.turn.window 0 ≡ false → is_some (group_of plan part) ≡ false → is_last plan c.turn ≡ true
      → (posted plan part c).phase ≡ Done
  post_done opened alone is = rw opened (rw alone (last_done is))

  pub begun_phase : (newest : ℕ) (r : Result (List InputWave) (Option Fault)) (mapped : List InputWave) → r ≡ Ok mapped
      → (turn_begun plan part newest r c).phase ≡ Running
  begun_phase newest r mapped is = ap (λ o. (turn_begun plan part newest o c).phase) is

  pub overflow_phase : (newest : ℕ) (r : Result (List InputWave) (Option Fault)) (fault : Fault) → r ≡ Err (Some fault)
      → (turn_begun plan part newest r c).phase ≡ c.phase
  overflow_phase newest r fault is = ap (λ o. (turn_begun plan part newest o c).phase) is

-- the reply to the event that is out
pub to_kind : (plan : PlanParts) (part : ℕ) (c : Course) (kind : EventKind) (reply : Reply) → c.out ≡ Some kind
    → (replied plan part c.out reply c).phase ≡ (answered plan part reply kind (record c { out = None })).phase
to_kind plan part c kind reply is = ap (λ o. (replied plan part o reply c).phase) is
