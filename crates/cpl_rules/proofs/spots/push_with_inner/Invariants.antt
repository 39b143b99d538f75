use Rattle.std.proofs.Common.{◌≡◌, ◌++◌, map, drop}
use Rattle.cpl_rules.specs.Seen.{seen_of}
use Rattle.cpl_rules.specs.SeenTables.{each_with_inner}
use Rattle.cpl_rules.proofs.spots.push_with_inner.Given as goal

-- what is there and the other tables with theirs are all of them
abbrev pub invariant-tables : goal.invariant-tables
invariant-tables l =
    map seen_of l.to.items ++ each_with_inner (map seen_of (drop l.table-index l.tables))
    ≡ map seen_of l.fn.to.items ++ each_with_inner (map seen_of l.fn.tables)
