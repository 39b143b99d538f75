use Rattle.std.proofs.Common.{◌≡◌, drop}
use Rattle.std.specs.List.{list_all}
use Rattle.case_rules.specs.CaseRules.{is_index}
use Rattle.case_rules.proofs.solvers.are_indexes.Given as goal

-- the rest are indexes where all are
abbrev pub invariant-indexes : goal.invariant-indexes
invariant-indexes l = list_all (is_index l.count) (drop l.index-index l.indexes) ≡ list_all (is_index l.count) l.indexes
