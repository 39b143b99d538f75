use Rattle.std.proofs.Common.{◌≡◌, map, take}
use Rattle.toml.specs.View.{view}
use Rattle.cpl_config.specs.TreeValues.{integer_of}
use Rattle.case_files.proofs.lists.integers_in.Given as goal

abbrev pub invariant-loop-value : goal.invariant-loop-value
invariant-loop-value l = l.integers.items ≡ map integer_of (map view (take l.value-index l.values))
