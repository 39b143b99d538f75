use Rattle.std.proofs.Common.{◌≡◌, map, drop}
use Rattle.std.specs.List.{list_all}
use Rattle.toml.specs.View.{view}
use Rattle.cpl_tables.proofs.items.all_pass.Given as goal

-- the rest passes as the whole does
abbrev pub invariant-items : goal.invariant-items
invariant-items g l =
    list_all (g.T.ItemTest.test l.test) (map view (drop l.item-index l.items)) ≡ list_all (g.T.ItemTest.test l.test) (map view l.items)
