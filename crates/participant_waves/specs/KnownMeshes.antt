-- The meshes that a participant has once all meshes were exchanged: one for each that it provides and receives. From the coupling documentation's provided and received meshes; that none of them is empty is the project's own.
use Rattle.std.specs.Prelude.{◌≡◌, ◌⊎◌, ℕ, ◌<◌, ◌≤◌, true, List, length, slice_get, Some, option_map}
use Rattle.cpl_plan.specs.PlanWords.{provides, receives}
use Rattle.cpl_plan.specs.declared.parts.PlanParts.{PlanParts}
use Rattle.mesh_data.specs.AnyMeshes.{dimensions_of, vertices_of}
use Rattle.mesh_data.specs.declared.any_mesh.AnyMesh.{AnyMesh}
use Rattle.wave_coupling.specs.Known.{provided_by, received_meshes}

-- it has the dimensions of the plan's mesh of a number, and some vertex
pub record IsMeshOf (plan : PlanParts) (number : ℕ) (mesh : AnyMesh) : Type 0 where
  pub dimensions : option_map (λ m. m.dimensions) (slice_get plan.meshes number) ≡ Some (dimensions_of mesh)
  pub some : 1 ≤ length (vertices_of mesh)

-- one for each number, in order
pub record AreMeshesOf (plan : PlanParts) (numbers : List ℕ) (meshes : List AnyMesh) : Type 0 where
  pub many : length meshes ≡ length numbers
  pub each : (k number : ℕ) (mesh : AnyMesh) → slice_get numbers k ≡ Some number → slice_get meshes k ≡ Some mesh → IsMeshOf plan number mesh

-- those that a participant provides, and those that it receives
pub record HasMeshes (plan : PlanParts) (part : ℕ) (own received : List AnyMesh) : Type 0 where
  pub participant : part < length plan.parts
  pub provided : AreMeshesOf plan (provided_by plan part part) own
  pub got : AreMeshesOf plan (received_meshes plan part) received

-- a participant provides or receives a mesh
abbrev pub IsKnownTo : PlanParts → (part mesh : ℕ) → Type 0
IsKnownTo plan part mesh = (provides plan part mesh ≡ true) ⊎ (receives plan part mesh ≡ true)
