-- The meshes that a participant knows by its own calls and by the reply to its event that takes meshes. The coupling documentation has provided and received meshes; that the reply gives one mesh for each that is received is the project's own.
use Rattle.std.specs.Prelude.{◌≡◌, ℕ, ◌+◌, nat_eq, List, length, map, zip, replicate, position, slice_get, Some, unwrap_or, option_and_then}
use Rattle.cpl_plan.specs.declared.parts.PlanParts.{PlanParts}
use Rattle.mesh_data.specs.declared.any_mesh.AnyMesh.{AnyMesh}
use Rattle.wave_coupling.specs.Known.{Known, provided_by, received_meshes, received_mesh}

module _ (plan : PlanParts) (part : ℕ) where
  -- the place of a mesh among those that its owner provides
  abbrev pub place_at_owner : (mesh : ℕ) → ℕ
  place_at_owner mesh = unwrap_or (option_and_then (λ m. position (nat_eq mesh) (provided_by plan part m.owner)) (slice_get plan.meshes mesh)) 0

  -- the meshes of a received mesh's owner as far as the reply tells them: the one that is received stands at its place
  abbrev pub owners_meshes : (mesh : ℕ) → AnyMesh → List AnyMesh
  owners_meshes mesh given = replicate (place_at_owner mesh + 1) given

  -- its own meshes, and those that the reply gives, one for each that it receives
  abbrev pub known_by : (own given : List AnyMesh) → Known
  known_by own given = record { own = own; received = map (λ at. owners_meshes at.0 at.1) (zip (received_meshes plan part) given) }

  -- what a participant knows of the meshes that it receives is what the reply gives
  pub record IsToldBy (known : Known) (given : List AnyMesh) : Type 0 where
    pub count : length given ≡ length (received_meshes plan part)
    pub each : (i mesh : ℕ) → slice_get (received_meshes plan part) i ≡ Some mesh → received_mesh plan part known mesh ≡ slice_get given i
