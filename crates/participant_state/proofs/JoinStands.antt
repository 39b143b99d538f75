-- What stands while the meshes, or the inputs of a turn, are asked for, and once they are there.
use Rattle.std.proofs.Common.{◌≡◌, ℕ, true, List, [], ◌∷◌, ◌++◌, map, is_some, Option, Some, None, ap, subst}
use Rattle.std.specs.Prelude.{IfSome, option_map}
use Rattle.mesh_data.specs.declared.any_mesh.AnyMesh.{AnyMesh}
use Rattle.cpl_plan.specs.declared.parts.PlanParts.{PlanParts}
use Rattle.participant_words.specs.EventKinds.{kind_of}
use Rattle.participant_words.specs.declared.phase.Phase.{Phase}
use Rattle.participant_words.specs.declared.phase.Phase.TheVariants.{Fresh, Joining, Running, Pending, Done, Final, Stopped}
use Rattle.participant_words.specs.declared.phase.EventKind.{EventKind}
use Rattle.participant_words.specs.declared.phase.EventKind.TheVariants.{TakeMeshes, Take}
use Rattle.participant_tables.specs.Queued.{Queued}
use Rattle.participant_tables.specs.declared.clock.Clock.{Clock}
use Rattle.participant_tables.specs.declared.queue.Out.{Out}
use Rattle.participant_waves.specs.declared.kept_input.KeptInput.{KeptInput}
use Rattle.participant_waves.specs.declared.passages.Passages.{Passages}
use Rattle.participant_state.specs.Kept.{kind_out}
use Rattle.participant_state.specs.Agenda.{HasOwn, IsInWindow, Stands, StandsIn, agenda, out_first}

out_stands : (o : Option Out) (kind : EventKind) (rest : List EventKind) → option_map kind_out o ≡ Some kind → out_first o ++ rest ≡ kind ∷ rest
out_stands None kind rest is = cc
out_stands (Some out) kind rest is = let same : kind_out out ≡ kind = cc in ap (λ (k : EventKind). k ∷ rest) same

-- the event that is out stands first
pub agenda_is : (queue : Queued) (kind : EventKind) → option_map kind_out queue.out ≡ Some kind → agenda queue ≡ kind ∷ map kind_of queue.waiting
agenda_is queue kind is = out_stands queue.out kind (map kind_of queue.waiting) is

module _ (plan : PlanParts) (part : ℕ) (own : List AnyMesh) (clock : Clock) (passages : Option Passages) (inputs : List KeptInput) (times : List ℕ) (queue : Queued) where
  -- while the meshes are asked for
  pub meshes_asked : option_map kind_out queue.out ≡ Some TakeMeshes → Stands plan part own clock passages inputs times (agenda queue) → HasOwn plan part own clock times
  meshes_asked is stands = (subst (λ (all : List EventKind). Stands plan part own clock passages inputs times all) (agenda_is queue TakeMeshes is) stands).0

  -- while inputs are asked for
  pub inputs_asked : option_map kind_out queue.out ≡ Some Take → Stands plan part own clock passages inputs times (agenda queue) → IsInWindow plan clock passages
  inputs_asked is stands = (subst (λ (all : List EventKind). Stands plan part own clock passages inputs times all) (agenda_is queue Take is) stands).0

  pub nothing_waits : option_map kind_out queue.out ≡ Some Take → Stands plan part own clock passages inputs times (agenda queue) → map kind_of queue.waiting ≡ []
  nothing_waits is stands = (subst (λ (all : List EventKind). Stands plan part own clock passages inputs times all) (agenda_is queue Take is) stands).1

  -- an event is out in other phases alone
  other_phase : (phase : Phase) (kind : EventKind) (rest after : List EventKind) (now : Option Passages) → StandsIn plan part own clock passages inputs times phase (kind ∷ rest)
      → StandsIn plan part own clock now inputs times phase after
  other_phase Fresh kind rest after now stands = let none = stands.0 in cc
  other_phase Running kind rest after now stands = let none = stands.0 in cc
  other_phase Joining kind rest after now stands = tt
  other_phase Pending kind rest after now stands = tt
  other_phase Done kind rest after now stands = tt
  other_phase Final kind rest after now stands = tt
  other_phase Stopped kind rest after now stands = tt

  pub phase_stays : (phase : Phase) (kind : EventKind) (after : List EventKind) (now : Option Passages) → option_map kind_out queue.out ≡ Some kind
      → StandsIn plan part own clock passages inputs times phase (agenda queue) → StandsIn plan part own clock now inputs times phase after
  phase_stays phase kind after now is stands =
      other_phase phase kind (map kind_of queue.waiting) after now
      (subst (λ (all : List EventKind). StandsIn plan part own clock passages inputs times phase all) (agenda_is queue kind is) stands)

-- the meshes that a participant has joined
pub joined_some : {Q : Type 0} (passages : Option Passages) → is_some passages ≡ true → IfSome passages (λ _. Q) → Q
joined_some None none is = cc
joined_some (Some p) some is = is
