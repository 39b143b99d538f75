use Rattle.std.proofs.Common.{◌≡◌, ◌++◌, map, take, drop}
use Rattle.mesh_rules.specs.Entries.{entries_of_scheme, each_after, scheme_entries}
use Rattle.mesh_rules.specs.Spots.{entry_of}
use Rattle.mesh_rules.proofs.entries.push_schemes.Given as goal

-- what is there and the entries of the rest are those of the whole
abbrev pub invariant-items : goal.invariant-items
invariant-items l =
    map entry_of l.to.items ++ each_after (entries_of_scheme) (take l.index l.items) (drop l.index l.items)
    ≡ map entry_of l.fn.to.items ++ scheme_entries l.fn.config
