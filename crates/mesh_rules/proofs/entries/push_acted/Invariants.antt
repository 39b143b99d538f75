use Rattle.std.proofs.Common.{◌≡◌, ◌++◌, map, take, drop}
use Rattle.cpl_tables.specs.declared.places.Place.TheVariants as P
use Rattle.mesh_rules.specs.Entries.{at, acted, each_after, acted_entries}
use Rattle.mesh_rules.specs.Spots.{entry_of}
use Rattle.mesh_rules.proofs.entries.push_acted.Given as goal

-- what is there and the entries of the rest are those of the whole
abbrev pub invariant-items : goal.invariant-items
invariant-items l =
    map entry_of l.to.items ++ each_after (λ n before entry. at (P.Action l.fn.part n) (acted l.fn.table before entry)) (take l.index l.items) (drop l.index l.items)
    ≡ map entry_of l.fn.to.items ++ acted_entries l.fn.part l.fn.table
