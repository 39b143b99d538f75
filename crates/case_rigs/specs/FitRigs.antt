-- What a participant is run with fits the plan of its configuration. The project's own, after the coupling documentation's provided meshes, and its read and write entries.
use Rattle.std.specs.Prelude.{◌≡◌, ℕ, ◌≤◌, List, length, slice_get, Some, sum_by}
use Rattle.std.specs.List.{AllZip}
use Rattle.std.specs.Option.{option_map}
use Rattle.cpl_plan.specs.declared.parts.PlanParts.{PlanParts}
use Rattle.cpl_plan.specs.declared.parts.PlanEntry.{PlanEntry}
use Rattle.mesh_data.specs.declared.any_mesh.AnyMesh.{AnyMesh}
use Rattle.mesh_data.specs.AnyMeshes.{vertices_of, dimensions_of}
use Rattle.mesh_data.specs.Meshes.{IsMesh}
use Rattle.line_solvers.specs.LineMeaning.{line_behaviour}
use Rattle.data_actions.specs.SummedSolver.{SummedSolver}
use Rattle.wave_coupling.specs.Known.{provided_by, read_entries, write_entries, width_of}
use Rattle.case_rigs.specs.CaseRigs.{RigParts}

-- the mesh is what the plan says of this number: it has as many dimensions; and it has a vertex
pub record IsMeshOf (plan : PlanParts) (number : ℕ) (mesh : AnyMesh) : Type 0 where
  pub dimensions : option_map (λ told. told.dimensions) (slice_get plan.meshes number) ≡ Some (dimensions_of mesh)
  pub vertices : IsMesh (dimensions_of mesh) (vertices_of mesh)
  pub some : 1 ≤ length (vertices_of mesh)

-- how many values the entries have over a rig's meshes, whatever meshes are received
abbrev pub HaveValues : PlanParts → (part : ℕ) → RigParts → List PlanEntry → (count : ℕ) → Type 0
HaveValues plan part rig entries count =
    (received : List (List AnyMesh)) → count ≡ sum_by (width_of plan part (record { own = rig.meshes; received = received })) entries

-- the meshes are those that the participant provides, in order; the solver reads and writes as many values as its entries have
pub record IsRigOf (plan : PlanParts) (part : ℕ) (rig : RigParts) : Type 0 where
  pub meshes : AllZip (IsMeshOf plan) (provided_by plan part part) rig.meshes
  pub reads : HaveValues plan part rig (read_entries plan part) (SummedSolver (line_behaviour rig.spec) rig.sums).read_len
  pub writes : HaveValues plan part rig (write_entries plan part) (SummedSolver (line_behaviour rig.spec) rig.sums).write_len
