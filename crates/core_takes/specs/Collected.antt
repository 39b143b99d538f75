-- The meshes that a participant receives, of those that their owners have posted. After the coupling documentation's received meshes.
use Rattle.std.specs.Prelude.{ℕ, List, filter_map, zip, Contains, IsSome}
use Rattle.mesh_data.specs.declared.any_mesh.AnyMesh.{AnyMesh}
use Rattle.cpl_plan.specs.declared.parts.PlanParts.{PlanParts}
use Rattle.coupled_loop.specs.PlanFrames.{owners_of}
use Rattle.wave_coupling.specs.Known.{received_meshes}
use Rattle.core_sides.specs.CoreWords.{WaveState}
use Rattle.core_sides.specs.Answers.{mesh_received}

module _ (plan : PlanParts) (sides : WaveState) (part : ℕ) where
  -- the owners of the meshes that a participant receives have posted theirs
  abbrev pub HaveSent : Type 0
  HaveSent = (owner : ℕ) → Contains (owners_of plan part) owner → IsSome (sides owner).sent

  -- each mesh that it receives, of its owner's, in order
  abbrev pub collected_meshes : List AnyMesh
  collected_meshes =
      filter_map (λ at. mesh_received plan sides part at.0 at.1)
      (zip (received_meshes plan part) (filter_map (λ owner. (sides owner).sent) (owners_of plan part)))
