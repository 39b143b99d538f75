use Rattle.std.proofs.Common.{◌≡◌, map, take}
use Rattle.cpl_config.specs.declared.config.DataTable.{DataTable}
use Rattle.scheme_parts.proofs.numbered.data_table.Given as goal

abbrev pub invariant-tables : goal.invariant-tables
invariant-tables l = l.names ≡ map (λ (table : DataTable). table.name) (take l.table-index l.tables)
