use Rattle.std.proofs.Common.{◌≡◌, map, take}
use Rattle.toml.specs.View.{view}
use Rattle.case_files.specs.CaseOf.{units_list_of}
use Rattle.case_files.proofs.lists.points_in.Given as goal

abbrev pub invariant-loop-value : goal.invariant-loop-value
invariant-loop-value l = l.points.items ≡ map units_list_of (map view (take l.value-index l.values))
