-- What a configuration's names stand for. The project's own.
use Rattle.std.specs.Prelude.{ℕ, Bool, false, List, find, ℤ, pos, Option, is_some}
use Rattle.std.specs.List.{list_any}
use Rattle.std.specs.Option.{option_map_or}
use Rattle.std.specs.Str.{bytes_eq}
use Rattle.cpl_config.specs.declared.config.Config.{Config}
use Rattle.cpl_config.specs.declared.config.DataTable.{DataTable}
use Rattle.cpl_config.specs.declared.config.MeshTable.{MeshTable}
use Rattle.cpl_config.specs.declared.config.PartTable.{PartTable}
use Rattle.mesh_rules.specs.declared.named.NameOf.{NameOf}
use Rattle.mesh_rules.specs.declared.named.NameOf.TheVariants.{Data, Mesh, Participant}

-- the table of a name
abbrev pub data_called : Config → List ℕ → Option DataTable
data_called config name = find (λ table. bytes_eq table.name name) config.data_list

abbrev pub mesh_called : Config → List ℕ → Option MeshTable
mesh_called config name = find (λ table. bytes_eq table.name name) config.mesh

abbrev pub participant_called : Config → List ℕ → Option PartTable
participant_called config name = find (λ table. bytes_eq table.name name) config.participant

-- there is one of this name
abbrev pub is_data : Config → List ℕ → Bool
is_data config name = is_some (data_called config name)

abbrev pub is_mesh : Config → List ℕ → Bool
is_mesh config name = is_some (mesh_called config name)

abbrev pub is_participant : Config → List ℕ → Bool
is_participant config name = is_some (participant_called config name)

-- there is one of this name, of what the name is a name of
abbrev pub is_declared : Config → NameOf → List ℕ → Bool
is_declared config Data name = is_data config name
is_declared config Mesh name = is_mesh config name
is_declared config Participant name = is_participant config name

abbrev pub is_among : List ℕ → List (List ℕ) → Bool
is_among name names = list_any (bytes_eq name) names

-- the mesh carries the data
abbrev pub carries : Config → (mesh data_name : List ℕ) → Bool
carries config mesh data_name = option_map_or (λ table. is_among data_name table.data_list) (mesh_called config mesh) false

abbrev pub dimensions_of : Config → List ℕ → ℤ
dimensions_of config mesh = option_map_or (λ table. table.dimensions) (mesh_called config mesh) (pos 0)

-- the participant provides or receives the mesh
abbrev pub provides : PartTable → List ℕ → Bool
provides table mesh = is_among mesh table.provides

abbrev pub receives : PartTable → List ℕ → Bool
receives table mesh = list_any (λ entry. bytes_eq mesh entry.mesh) table.receives

-- something holds of the participant of this name
abbrev pub holds_of : Config → List ℕ → (PartTable → Bool) → Bool
holds_of config name test = option_map_or test (participant_called config name) false
