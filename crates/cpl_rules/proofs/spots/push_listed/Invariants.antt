use Rattle.std.proofs.Common.{◌≡◌, ◌++◌, map, drop}
use Rattle.toml.specs.View.{view}
use Rattle.cpl_rules.specs.Seen.{seen_of}
use Rattle.cpl_rules.specs.SeenTables.{tables_listed}
use Rattle.cpl_rules.proofs.spots.push_listed.Given as goal

-- what is there and the tables of the rest are those of the whole
abbrev pub invariant-items : goal.invariant-items
invariant-items l =
    map seen_of l.to.items ++ tables_listed (seen_of l.fn.spot) l.kind l.index (map view (drop l.index l.items))
    ≡ map seen_of l.fn.to.items ++ tables_listed (seen_of l.fn.spot) l.kind 0 (map view l.items)
