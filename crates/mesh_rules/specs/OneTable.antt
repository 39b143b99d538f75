-- What a declared name stands for. The project's own.
use Rattle.std.specs.Prelude.{◌≡◌, ◌≢◌, ℕ, List, ◌∷◌, ◌++◌, All, Some}
use Rattle.cpl_config.specs.declared.config.Config.{Config}
use Rattle.cpl_config.specs.declared.config.DataTable.{DataTable}
use Rattle.cpl_config.specs.declared.config.MeshTable.{MeshTable}
use Rattle.cpl_config.specs.declared.config.PartTable.{PartTable}
use Rattle.mesh_rules.specs.Named.{data_called, mesh_called, participant_called}

-- the table has the name, and no other one of the tables has it
pub record IsOnly {T : Type 0} (name_of : T → List ℕ) (tables : List T) (name : List ℕ) (table : T) : Type 0 where
  pub before : List T
  pub after : List T
  pub stands : tables ≡ before ++ table ∷ after
  pub named : name_of table ≡ name
  pub none_before : All (λ other. name_of other ≢ name) before
  pub none_after : All (λ other. name_of other ≢ name) after

-- the one table of a name
abbrev pub IsOnlyData : Config → List ℕ → DataTable → Type 0
IsOnlyData config name table = IsOnly (λ (other : DataTable). other.name) config.data_list name table

abbrev pub IsOnlyMesh : Config → List ℕ → MeshTable → Type 0
IsOnlyMesh config name table = IsOnly (λ (other : MeshTable). other.name) config.mesh name table

abbrev pub IsOnlyParticipant : Config → List ℕ → PartTable → Type 0
IsOnlyParticipant config name table = IsOnly (λ (other : PartTable). other.name) config.participant name table

-- the table is what its name stands for
abbrev pub IsDataOfItsName : Config → DataTable → Type 0
IsDataOfItsName config table = data_called config table.name ≡ Some table

abbrev pub IsMeshOfItsName : Config → MeshTable → Type 0
IsMeshOfItsName config table = mesh_called config table.name ≡ Some table

abbrev pub IsParticipantOfItsName : Config → PartTable → Type 0
IsParticipantOfItsName config table = participant_called config table.name ≡ Some table
