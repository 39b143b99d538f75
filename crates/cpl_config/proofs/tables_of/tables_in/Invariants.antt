use Rattle.std.proofs.Common.{◌≡◌, map, take}
use Rattle.toml.specs.View.{view}
use Rattle.cpl_config.specs.TreeValues.{members_of}
use Rattle.cpl_config.proofs.tables_of.tables_in.Given as goal

abbrev pub invariant-loop-value : goal.invariant-loop-value
invariant-loop-value g l = l.made.items ≡ map g.T.FromTable.of_table (map members_of (map view (take l.value-index l.values)))
