use Rattle.std.proofs.Common.{◌≡◌, ◌++◌, map, flat_map, drop}
use Rattle.cpl_tables.specs.KeyRule.{rule_of_key}
use Rattle.cpl_rules.specs.Seen.{seen_of}
use Rattle.cpl_rules.specs.SeenTables.{tables_under, tables_in}
use Rattle.cpl_rules.proofs.spots.push_tables_in.Given as goal

-- what is there and the tables under the other keys are those under all keys
abbrev pub invariant-keys : goal.invariant-keys
invariant-keys l =
    map seen_of l.to.items ++ flat_map (tables_under (seen_of l.fn.spot)) (map rule_of_key (drop l.key-index l.key-items))
    ≡ map seen_of l.fn.to.items ++ tables_in (seen_of l.fn.spot)
