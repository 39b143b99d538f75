use Rattle.std.proofs.Common.{◌≡◌, map, take}
use Rattle.case_rules.specs.CaseRules.{values_of}
use Rattle.action_sums.proofs.lengths.written_lengths.Given as goal

abbrev pub invariant-entries : goal.invariant-entries
invariant-entries l = l.lengths.items ≡ map (values_of l.config l.case_file) (take l.entry-index l.entry-items)
