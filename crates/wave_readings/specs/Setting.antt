-- A coupling of waves whose solvers meet their trait, and in which each participant has a mesh for each that it provides. After the coupling documentation, where each participant receives the meshes of others; the project's own in form.
use Rattle.std.specs.Prelude.{◌≡◌, ℕ, ◌<◌, nat_eq, Bool, IsTrue, List, [], length, map, position, slice_get, Option, option_and_then}
use Rattle.std.specs.Option.{option_map_or}
use Rattle.mesh_data.specs.AnyMeshes.{vertices_of}
use Rattle.mesh_data.specs.declared.any_mesh.AnyMesh.{AnyMesh}
use Rattle.cpl_plan.specs.ValidPlan.{IsValidPlan}
use Rattle.cpl_plan.specs.declared.parts.PlanParts.{PlanParts}
use Rattle.solver_trait.specs.Behaviour.{Behaviour}
use Rattle.coupled_loop.specs.PlanFrames.{owners_of}
use Rattle.wave_coupling.specs.Known.{Known}
use Rattle.wave_values.specs.Trait.{FitsEntries, MeetsTrait}

-- the meshes that a participant knows: its own, and those of the owners from whom it receives
abbrev pub known_of : PlanParts → (meshes : ℕ → List AnyMesh) → (part : ℕ) → Known
known_of plan meshes part = record { own = meshes part; received = map meshes (owners_of plan part) }

-- the numbers of the meshes that a participant provides, in order
abbrev pub provided_of : PlanParts → (part : ℕ) → List ℕ
provided_of plan part = option_map_or (λ p. p.provides) (slice_get plan.parts part) []

-- a mesh that it provides
abbrev pub provided_mesh : PlanParts → (meshes : ℕ → List AnyMesh) → (part mesh : ℕ) → Option AnyMesh
provided_mesh plan meshes part mesh = option_and_then (slice_get (meshes part)) (position (nat_eq mesh) (provided_of plan part))

-- how many vertices a mesh has, as its owner provides it
abbrev pub vertices_at : PlanParts → (meshes : ℕ → List AnyMesh) → (mesh : ℕ) → ℕ
vertices_at plan meshes mesh =
    option_map_or (λ m. length (option_map_or vertices_of (provided_mesh plan meshes m.owner mesh) [])) (slice_get plan.meshes mesh) 0

-- the plan is valid; solvers meet their trait from their start states on, and read and write as many values as their participants' entries have; each participant has one mesh for each that it provides
pub record IsSetting {State : Type 0} (plan : PlanParts) (meshes : ℕ → List AnyMesh) (solvers : ℕ → Behaviour State) (states : ℕ → State) (sound : ℕ → State → Bool) : Type 0 where
  pub valid : IsValidPlan plan
  pub meets : (part : ℕ) → part < length plan.parts → MeetsTrait (sound part) (solvers part)
  pub fits : (part : ℕ) → part < length plan.parts → FitsEntries plan part (known_of plan meshes part) (solvers part)
  pub provides : (part : ℕ) → part < length plan.parts → length (meshes part) ≡ length (provided_of plan part)
  pub starts : (part : ℕ) → part < length plan.parts → IsTrue (sound part (states part))
