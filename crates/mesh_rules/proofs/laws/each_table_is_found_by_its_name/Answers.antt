use Rattle.cpl_config.specs.declared.config.DataTable.{DataTable}
use Rattle.cpl_config.specs.declared.config.MeshTable.{MeshTable}
use Rattle.cpl_config.specs.declared.config.PartTable.{PartTable}
use Rattle.mesh_rules.proofs.OneTables.{each_is_found}
use Rattle.mesh_rules.proofs.laws.each_table_is_found_by_its_name.Goals as goal

pub returns : goal.returns
returns c = record {
  data_tables = λ config sound. each_is_found (λ (table : DataTable). table.name) config.data_list sound.data_once;
  meshes = λ config sound. each_is_found (λ (table : MeshTable). table.name) config.mesh sound.mesh_once;
  participants = λ config sound. each_is_found (λ (table : PartTable). table.name) config.participant sound.participant_once;
}
