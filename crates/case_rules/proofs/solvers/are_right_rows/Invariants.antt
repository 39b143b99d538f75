use Rattle.std.proofs.Common.{◌≡◌, drop}
use Rattle.std.specs.List.{list_all}
use Rattle.case_rules.specs.CaseRules.{has_right_row}
use Rattle.case_rules.proofs.solvers.are_right_rows.Given as goal

-- the rest are right where all are
abbrev pub invariant-rows : goal.invariant-rows
invariant-rows l = list_all (has_right_row l.size l.inputs) (drop l.row-index l.rows) ≡ list_all (has_right_row l.size l.inputs) l.rows
