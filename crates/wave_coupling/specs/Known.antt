-- The meshes that a participant knows, and the entries that its exchanges serve. From the coupling documentation's provided and received meshes, and its read and write entries.
use Rattle.std.specs.Prelude.{ℕ, ◌*◌, Bool, ◌&&◌, nat_eq, List, [], position, length, slice_get, Option, option_and_then}
use Rattle.std.specs.Option.{option_map_or}
use Rattle.cpl_plan.specs.PlanWords.{components_on}
use Rattle.cpl_plan.specs.declared.parts.PlanParts.{PlanParts}
use Rattle.cpl_plan.specs.declared.parts.PlanEntry.{PlanEntry}
use Rattle.cpl_plan.specs.declared.parts.MapPlan.{MapPlan}
use Rattle.cpl_plan.specs.declared.parts.Exchange.{Exchange}
use Rattle.mesh_data.specs.AnyMeshes.{vertices_of}
use Rattle.mesh_data.specs.declared.any_mesh.AnyMesh.{AnyMesh}
use Rattle.wave_coupling.specs.Mapped.{Points}

-- the meshes that a participant knows: its own in order, and for each mesh that it receives those of the mesh's owner
pub record Known : Type 0 where
  pub own : List AnyMesh
  pub received : List (List AnyMesh)

module _ (plan : PlanParts) (part : ℕ) where
  abbrev pub provided_by : (owner : ℕ) → List ℕ
  provided_by owner = option_map_or (λ p. p.provides) (slice_get plan.parts owner) []

  abbrev pub received_meshes : List ℕ
  received_meshes = option_map_or (λ p. p.receives) (slice_get plan.parts part) []

  abbrev pub read_entries : List PlanEntry
  read_entries = option_map_or (λ p. p.reads) (slice_get plan.parts part) []

  abbrev pub write_entries : List PlanEntry
  write_entries = option_map_or (λ p. p.writes) (slice_get plan.parts part) []

  abbrev pub map_at : Option ℕ → Option MapPlan
  map_at place = option_and_then (λ i. option_and_then (λ p. slice_get p.maps i) (slice_get plan.parts part)) place

  -- the points of a mesh: the participant's own, or one that it has received
  abbrev pub own_mesh : Known → (mesh : ℕ) → Option AnyMesh
  own_mesh known mesh = option_and_then (slice_get known.own) (position (nat_eq mesh) (provided_by part))

  abbrev pub received_mesh : Known → (mesh : ℕ) → Option AnyMesh
  received_mesh known mesh =
      option_and_then (λ m. option_and_then (λ all. option_and_then (slice_get all) (position (nat_eq mesh) (provided_by m.owner)))
      (option_and_then (slice_get known.received) (position (nat_eq mesh) received_meshes)))
      (slice_get plan.meshes mesh)

  abbrev pub points_of : Known → (mesh : ℕ) → Points
  points_of known mesh = option_map_or vertices_of (own_mesh known mesh) (option_map_or vertices_of (received_mesh known mesh) [])

  -- the mesh of the entry that an exchange serves: the one that it is mapped to or from, or its own
  abbrev pub read_mesh : Exchange → ℕ
  read_mesh e = option_map_or (λ m. m.to) (map_at e.read_map) e.mesh

  abbrev pub write_mesh : Exchange → ℕ
  write_mesh e = option_map_or (λ m. m.from) (map_at e.write_map) e.mesh

  abbrev pub serves : Exchange → (mesh : ℕ) → PlanEntry → Bool
  serves e mesh entry = nat_eq entry.data_id e.data_id && nat_eq entry.mesh mesh

  -- how many values an entry has
  abbrev pub width_of : Known → PlanEntry → ℕ
  width_of known entry =
      option_map_or (λ n. n) (components_on plan entry.data_id entry.mesh) 0 * length (points_of known entry.mesh)
