use Rattle.std.proofs.Common.{◌≡◌, map, take}
use Rattle.toml.specs.View.{view}
use Rattle.case_files.specs.CaseOf.{pair_of}
use Rattle.case_files.proofs.lists.pairs_in.Given as goal

abbrev pub invariant-loop-value : goal.invariant-loop-value
invariant-loop-value l = l.pairs.items ≡ map pair_of (map view (take l.value-index l.values))
