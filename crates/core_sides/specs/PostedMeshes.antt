-- The meshes that participants post: those that they provide, of the plan's dimensions, none of them empty or too large. After the coupling documentation's provided meshes; the greatest number of vertices is the project's own.
use Rattle.std.specs.Prelude.{◌≡◌, ℕ, ◌*◌, ◌^◌, ◌≤◌, nat_eq, List, [], length, position, slice_get, Option, Some, option_map, option_and_then}
use Rattle.std.specs.Option.{option_map_or}
use Rattle.mesh_data.specs.AnyMeshes.{dimensions_of, vertices_of}
use Rattle.mesh_data.specs.declared.any_mesh.AnyMesh.{AnyMesh}
use Rattle.cpl_plan.specs.PlanWords.{components_of}
use Rattle.cpl_plan.specs.declared.parts.PlanParts.{PlanParts}
use Rattle.cpl_plan.specs.declared.parts.Exchange.{Exchange}
use Rattle.wave_coupling.specs.Known.{provided_by}
use Rattle.core_sides.specs.CoreWords.{WaveState}

-- a mesh has the plan's dimensions, is not empty, and has at most 10,000 vertices
pub record IsOfPlan (plan : PlanParts) (number : ℕ) (mesh : AnyMesh) : Type 0 where
  pub dimensions : option_map (λ m. m.dimensions) (slice_get plan.meshes number) ≡ Some (dimensions_of mesh)
  pub some_vertex : 1 ≤ length (vertices_of mesh)
  pub few : length (vertices_of mesh) ≤ 10 ^ 4

-- one mesh for each that the participant provides, in order
pub record AreProvided (plan : PlanParts) (part : ℕ) (meshes : List AnyMesh) : Type 0 where
  pub count : length meshes ≡ length (provided_by plan part part)
  pub each : (i number : ℕ) (mesh : AnyMesh) → slice_get (provided_by plan part part) i ≡ Some number → slice_get meshes i ≡ Some mesh
      → IsOfPlan plan number mesh

-- the mesh of this number among those that its owner provides
abbrev pub mesh_among : PlanParts → (owner number : ℕ) → List AnyMesh → Option AnyMesh
mesh_among plan owner number meshes = option_and_then (slice_get meshes) (position (nat_eq number) (provided_by plan owner owner))

-- a mesh as its owner has posted it
abbrev pub mesh_posted : PlanParts → WaveState → (number : ℕ) → Option AnyMesh
mesh_posted plan sides number =
    option_and_then (λ m. option_and_then (mesh_among plan m.owner number) (sides m.owner).sent) (slice_get plan.meshes number)

-- how many values a sample of an exchange has: so many at each vertex of its mesh
abbrev pub values_in : PlanParts → WaveState → Exchange → ℕ
values_in plan sides e = components_of plan e * length (option_map_or vertices_of (mesh_posted plan sides e.mesh) [])
