-- What the answer to an event that is out leads to. After the coupling documentation's windows and their iterations; the events are the project's own.
use Rattle.std.specs.Prelude.{◌≡◌, ◌⊎◌, ℕ, ◌≤◌, true, false, is_some, Some}
use Rattle.cpl_plan.specs.declared.parts.PlanParts.{PlanParts}
use Rattle.coupled_loop.specs.PlanFrames.{group_of}
use Rattle.participant_words.specs.Course.{Course}
use Rattle.participant_words.specs.declared.phase.Phase.{Phase}
use Rattle.participant_words.specs.declared.phase.Phase.TheVariants.{Final, Stopped}
use Rattle.participant_words.specs.declared.phase.EventKind.TheVariants.{PostMesh, Post, Judge}

module _ (plan : PlanParts) (part : ℕ) (c : Course) where
  -- the meshes are posted, or a turn that is then judged: nothing more becomes of it
  abbrev pub GoesOn : Type 0
  GoesOn = (c.out ≡ Some PostMesh) ⊎ ((c.out ≡ Some Post) × (1 ≤ c.turn.window) × (is_some (group_of plan part) ≡ true))

  -- the window is judged, or posted where no scheme judges: it is completed
  abbrev pub Completes : Type 0
  Completes = (c.out ≡ Some Judge) ⊎ ((c.out ≡ Some Post) × (1 ≤ c.turn.window) × (is_some (group_of plan part) ≡ false))

-- nothing waits in these phases
abbrev pub IsEnd : Phase → Type 0
IsEnd phase = (phase ≡ Final) ⊎ (phase ≡ Stopped)
