use Rattle.cpl_config.specs.declared.config.MeshTable.{MeshTable}
use Rattle.scheme_parts.proofs.Lookups.{new_item}
use Rattle.scheme_parts.proofs.numbered.mesh_table.Goals as goal

pub add-requires : goal.add-requires
add-requires c = new_item (λ (table : MeshTable). table.name) c.args.tables.now c.tables.table-index c.table-item.result c.tables.names c.tables.invariant c.table-item.is c.tables-test.true c.requires
