use Rattle.std.proofs.Common.{◌≡◌, map, take}
use Rattle.cpl_config.specs.declared.config.MeshTable.{MeshTable}
use Rattle.scheme_parts.proofs.numbered.mesh_table.Given as goal

abbrev pub invariant-tables : goal.invariant-tables
invariant-tables l = l.names ≡ map (λ (table : MeshTable). table.name) (take l.table-index l.tables)
