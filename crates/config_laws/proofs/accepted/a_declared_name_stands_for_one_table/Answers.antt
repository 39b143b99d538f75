use Rattle.cpl_config.specs.declared.config.DataTable.{DataTable}
use Rattle.cpl_config.specs.declared.config.MeshTable.{MeshTable}
use Rattle.cpl_config.specs.declared.config.PartTable.{PartTable}
use Rattle.mesh_rules.specs.Named.{data_called, mesh_called, participant_called}
use Rattle.mesh_rules.specs.OneTable.{IsOnlyData, IsOnlyMesh, IsOnlyParticipant}
use Rattle.mesh_rules.proofs.OneTables.{found_is_only}
use Rattle.config_laws.proofs.WholeFacts.{there}
use Rattle.config_laws.proofs.accepted.a_declared_name_stands_for_one_table.Goals as goal

pub returns : goal.returns
returns c = record {
  data_tables = λ config name sound declared. there (data_called config name) (IsOnlyData config name) declared (found_is_only (λ (table : DataTable). table.name) name config.data_list sound.data_once);
  meshes = λ config name sound declared. there (mesh_called config name) (IsOnlyMesh config name) declared (found_is_only (λ (table : MeshTable). table.name) name config.mesh sound.mesh_once);
  participants = λ config name sound declared. there (participant_called config name) (IsOnlyParticipant config name) declared (found_is_only (λ (table : PartTable). table.name) name config.participant sound.participant_once);
}
