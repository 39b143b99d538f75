use Rattle.std.proofs.Common.{◌≡◌, ◌+◌, drop}
use Rattle.std.specs.Prelude.{sum_by}
use Rattle.case_rules.specs.CaseRules.{values_of}
use Rattle.case_rigs.proofs.solvers.values_in.Given as goal

-- the values so far and those of the rest are those of all
abbrev pub invariant-entries : goal.invariant-entries
invariant-entries l = l.total + sum_by (values_of l.config l.case_file) (drop l.entry-index l.entries) ≡ sum_by (values_of l.config l.case_file) l.entries
