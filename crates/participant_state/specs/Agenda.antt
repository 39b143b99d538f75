-- What waits of a participant, first what is out, and what stands while it waits. After the order in which the coupling documentation initializes and advances; events are the project's own.
use Rattle.std.specs.Prelude.{◌≡◌, ◌⊎◌, ℕ, ◌<◌, ◌≤◌, ⊤, List, [], ◌∷◌, ◌++◌, map, length, true, is_some, if◌then◌else◌, Option, Some, None}
use Rattle.mesh_data.specs.declared.any_mesh.AnyMesh.{AnyMesh}
use Rattle.cpl_plan.specs.declared.parts.PlanParts.{PlanParts}
use Rattle.coupled_loop.specs.PlanFrames.{group_of}
use Rattle.wave_coupling.specs.Known.{provided_by}
use Rattle.wave_coupling.specs.Posts.{received}
use Rattle.participant_words.specs.EventKinds.{kind_of}
use Rattle.participant_words.specs.declared.phase.Phase.{Phase}
use Rattle.participant_words.specs.declared.phase.Phase.TheVariants.{Fresh, Running}
use Rattle.participant_words.specs.declared.phase.EventKind.{EventKind}
use Rattle.participant_words.specs.declared.phase.EventKind.TheVariants.{PostMesh, TakeMeshes, Post, Judge, Take, Stop, End}
use Rattle.participant_tables.specs.Queued.{Queued}
use Rattle.participant_tables.specs.declared.clock.Clock.{Clock}
use Rattle.participant_tables.specs.declared.queue.Out.{Out}
use Rattle.participant_waves.specs.KnownMeshes.{AreMeshesOf}
use Rattle.participant_waves.specs.declared.kept_input.KeptInput.{KeptInput}
use Rattle.participant_waves.specs.declared.passages.Passages.{Passages}
use Rattle.participant_state.specs.Kept.{kind_out}

abbrev pub out_first : Option Out → List EventKind
out_first None = []
out_first (Some out) = kind_out out ∷ []

-- the kinds of the events that wait, the one that is out first
abbrev pub agenda : Queued → List EventKind
agenda queue = out_first queue.out ++ map kind_of queue.waiting

-- before the first turn
pub record IsBefore (clock : Clock) (times : List ℕ) : Type 0 where
  pub window : clock.window ≡ 0
  pub steps : times ≡ []

-- the meshes that are posted are there, before the first turn
pub record HasOwn (plan : PlanParts) (part : ℕ) (own : List AnyMesh) (clock : Clock) (times : List ℕ) : Type 0 where
  pub before : IsBefore clock times
  pub meshes : AreMeshesOf plan (provided_by plan part part) own

-- the meshes are joined, and a window is there
pub record IsInWindow (plan : PlanParts) (clock : Clock) (passages : Option Passages) : Type 0 where
  pub joined : is_some passages ≡ true
  pub window : 1 ≤ clock.window
  pub there : clock.window ≤ plan.most_windows

-- a turn whose inputs were taken
pub record HasBegun (plan : PlanParts) (part : ℕ) (clock : Clock) (passages : Option Passages) (inputs : List KeptInput) : Type 0 where
  pub in_window : IsInWindow plan clock passages
  pub taken : length inputs ≡ length (received plan part)

-- a turn that has come to its end
pub record HasStepped (plan : PlanParts) (part : ℕ) (clock : Clock) (passages : Option Passages) (inputs : List KeptInput) (times : List ℕ) : Type 0 where
  pub begun : HasBegun plan part clock passages inputs
  pub stepped : 1 ≤ length times

module _ (plan : PlanParts) (part : ℕ) where
  -- a scheme's member is judged after its post
  abbrev pub judged_next : List EventKind
  judged_next = if is_some (group_of plan part) then Judge ∷ [] else []

  module _ (own : List AnyMesh) (clock : Clock) (passages : Option Passages) (inputs : List KeptInput) (times : List ℕ) where
    -- what stands while these wait
    abbrev pub Stands : List EventKind → Type 0
    Stands [] = ⊤
    Stands (PostMesh ∷ rest) = HasOwn plan part own clock times × (rest ≡ TakeMeshes ∷ [])
    Stands (TakeMeshes ∷ rest) = HasOwn plan part own clock times × (rest ≡ [])
    Stands (Post ∷ rest) = (IsBefore clock times × (is_some passages ≡ true) × (rest ≡ Take ∷ []))
        ⊎ (HasStepped plan part clock passages inputs times × (rest ≡ judged_next))
    Stands (Judge ∷ rest) = HasStepped plan part clock passages inputs times × (rest ≡ [])
    Stands (Take ∷ rest) = IsInWindow plan clock passages × (rest ≡ [])
    Stands (Stop ∷ rest) = rest ≡ []
    Stands (End ∷ rest) = rest ≡ []

    -- what stands in a phase, while these wait
    abbrev pub StandsIn : Phase → List EventKind → Type 0
    StandsIn Fresh waiting = (waiting ≡ []) × IsBefore clock times × (inputs ≡ []) × (passages ≡ None)
    StandsIn Running waiting = (waiting ≡ []) × HasBegun plan part clock passages inputs × (length times < 1024)
    StandsIn phase waiting = ⊤
