use Rattle.std.proofs.Common.{◌≡◌, ◌+◌, length, drop, sum_by}
use Rattle.cpl_config.specs.declared.config.SchemeTable.{SchemeTable}
use Rattle.scheme_parts.proofs.part.exchanges_in.Given as goal

-- those that are counted and those of the rest are those of all
abbrev pub invariant-tables : goal.invariant-tables
invariant-tables l = l.count + sum_by (λ (table : SchemeTable). length table.exchange) (drop l.table-index l.tables) ≡ sum_by (λ (table : SchemeTable). length table.exchange) l.tables
