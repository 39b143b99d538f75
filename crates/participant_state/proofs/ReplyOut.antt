-- What is out, and what stands while a window waits to be completed.
use Rattle.std.proofs.Common.{◌≡◌, ◌⊎◌, inl, inr, ℕ, ◌≤◌, false, List, ◌∷◌, map, is_some, Option, Some, None, ap, subst, arith}
use Rattle.std.specs.Prelude.{option_map}
use Rattle.mesh_data.specs.declared.any_mesh.AnyMesh.{AnyMesh}
use Rattle.cpl_plan.specs.declared.parts.PlanParts.{PlanParts}
use Rattle.coupled_loop.specs.PlanFrames.{group_of}
use Rattle.participant_tables.specs.Queued.{Queued}
use Rattle.participant_tables.specs.declared.clock.Clock.{Clock}
use Rattle.participant_tables.specs.declared.queue.Out.{Out}
use Rattle.participant_waves.specs.declared.kept_input.KeptInput.{KeptInput}
use Rattle.participant_waves.specs.declared.passages.Passages.{Passages}
use Rattle.participant_words.specs.EventKinds.{kind_of}
use Rattle.participant_words.specs.declared.phase.EventKind.{EventKind}
use Rattle.participant_words.specs.declared.phase.EventKind.TheVariants.{Post, Judge, End}
use Rattle.participant_state.specs.Agenda.{HasStepped, Stands, agenda}
use Rattle.participant_state.specs.Kept.{kind_out}

abbrev kind_or : Option EventKind → EventKind
kind_or (Some kind) = kind
kind_or None = End

same_kind : (one other : EventKind) → Some one ≡ Some other → one ≡ other
same_kind one other same = ap kind_or same

-- what is out comes first
pub out_first_is : (queue : Queued) (kind : EventKind) → option_map kind_out queue.out ≡ Some kind → agenda queue ≡ kind ∷ map kind_of queue.waiting
out_first_is queue kind is = by queue.out is
  where
    by : (out : Option Out) → option_map kind_out out ≡ Some kind → agenda (record queue { out = out }) ≡ kind ∷ map kind_of queue.waiting
    by (Some out) is = ap (λ (first : EventKind). first ∷ map kind_of queue.waiting) (same_kind (kind_out out) kind is)
    by None is = cc

-- a turn whose window is completed has come to its end
pub has_stepped : (plan : PlanParts) (part : ℕ) (own : List AnyMesh) (clock : Clock) (passages : Option Passages) (inputs : List KeptInput) (times : List ℕ) (queue : Queued)
    → Stands plan part own clock passages inputs times (agenda queue)
    → (option_map kind_out queue.out ≡ Some Judge) ⊎ ((option_map kind_out queue.out ≡ Some Post) × (1 ≤ clock.window) × (is_some (group_of plan part) ≡ false))
    → HasStepped plan part clock passages inputs times
has_stepped plan part own clock passages inputs times queue stands (inl judge) =
    (subst (Stands plan part own clock passages inputs times) (out_first_is queue Judge judge) stands).0
has_stepped plan part own clock passages inputs times queue stands (inr post) =
    by (subst (Stands plan part own clock passages inputs times) (out_first_is queue Post post.0) stands)
  where
    by : Stands plan part own clock passages inputs times (Post ∷ map kind_of queue.waiting) → HasStepped plan part clock passages inputs times
    by (inl before) = absurd (omega (arith, before.0.window, post.1))
    by (inr after) = after.0

-- something is out while a window waits to be completed
pub something_out : (plan : PlanParts) (part window : ℕ) (queue : Queued)
    → (option_map kind_out queue.out ≡ Some Judge) ⊎ ((option_map kind_out queue.out ≡ Some Post) × (1 ≤ window) × (is_some (group_of plan part) ≡ false))
    → (kind : EventKind) × (agenda queue ≡ kind ∷ map kind_of queue.waiting)
something_out plan part window queue (inl judge) = (Judge, out_first_is queue Judge judge)
something_out plan part window queue (inr post) = (Post, out_first_is queue Post post.0)
