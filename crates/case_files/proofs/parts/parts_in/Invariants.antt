use Rattle.std.proofs.Common.{◌≡◌, map, take}
use Rattle.toml.specs.View.{view}
use Rattle.cpl_config.specs.TreeValues.{members_of}
use Rattle.case_files.proofs.parts.parts_in.Given as goal

abbrev pub invariant-loop-value : goal.invariant-loop-value
invariant-loop-value g l = l.parts.items ≡ map g.T.OfTable.meaning (map members_of (map view (take l.value-index l.values)))
