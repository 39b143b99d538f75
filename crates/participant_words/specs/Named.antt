-- The meshes and data that a participant's calls name. From the coupling documentation, where calls name a provided mesh and data on it.
use Rattle.std.specs.Prelude.{ℕ, Bool, ◌&&◌, nat_eq, if◌then◌else◌, List, [], map, position, slice_get, Option, Some, None, option_and_then, unwrap_or}
use Rattle.std.specs.Option.{option_map_or}
use Rattle.std.specs.Str.{bytes_eq}
use Rattle.cpl_plan.specs.PlanTests.{data_names}
use Rattle.cpl_plan.specs.PlanWords.{mesh_carries}
use Rattle.cpl_plan.specs.declared.parts.PlanParts.{PlanParts}
use Rattle.cpl_plan.specs.declared.parts.PlanEntry.{PlanEntry}
use Rattle.wave_coupling.specs.Known.{provided_by, read_entries, write_entries}

-- the place of a name among others
abbrev pub place_of_name : List (List ℕ) → (name : List ℕ) → Option ℕ
place_of_name names name = position (λ other. bytes_eq other name) names

module _ (plan : PlanParts) where
  -- the number of the data of this name
  abbrev pub data_named : (name : List ℕ) → Option ℕ
  data_named name = place_of_name (data_names plan) name

  module _ (part : ℕ) where
    -- the names of the meshes that the participant provides
    abbrev pub provided_names : List (List ℕ)
    provided_names = map (λ mesh. option_map_or (λ m. m.name) (slice_get plan.meshes mesh) []) (provided_by plan part part)

    -- the place, among the meshes that the participant provides, of the mesh of this name
    abbrev pub place_named : (name : List ℕ) → Option ℕ
    place_named name = place_of_name provided_names name

    -- the number of the mesh at a place
    abbrev pub mesh_at : (place : ℕ) → ℕ
    mesh_at place = option_map_or (λ mesh. mesh) (slice_get (provided_by plan part part) place) 0

    -- the number of the data of this name, where the mesh at the place carries them
    abbrev pub data_on : (place : ℕ) → (name : List ℕ) → Option ℕ
    data_on place name = option_and_then (λ d. if mesh_carries plan (mesh_at place) d then Some d else None) (data_named name)

    -- the place of a mesh among those that the participant provides
    abbrev pub place_of : (mesh : ℕ) → ℕ
    place_of mesh = unwrap_or (position (nat_eq mesh) (provided_by plan part part)) 0

    -- an entry is on the mesh at a place
    abbrev pub is_on : (place : ℕ) → PlanEntry → Bool
    is_on place entry = nat_eq (place_of entry.mesh) place

    -- the place of the entry that reads, or writes, the data on the mesh at the place
    abbrev pub is_entry : (place data_id : ℕ) → PlanEntry → Bool
    is_entry place data_id entry = is_on place entry && nat_eq entry.data_id data_id

    abbrev pub entry_read : (place data_id : ℕ) → Option ℕ
    entry_read place data_id = position (is_entry place data_id) (read_entries plan part)

    abbrev pub entry_written : (place data_id : ℕ) → Option ℕ
    entry_written place data_id = position (is_entry place data_id) (write_entries plan part)
