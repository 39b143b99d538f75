use Rattle.std.proofs.Common.{◌≡◌, drop}
use Rattle.std.specs.List.{list_all}
use Rattle.case_rules.specs.CaseRules.{is_index}
use Rattle.case_rules.proofs.solvers.have_indexes.Given as goal

-- the rest has its indexes in range where all have
abbrev pub invariant-pairs : goal.invariant-pairs
invariant-pairs l = list_all (λ pair. is_index l.count pair.index) (drop l.pair-index l.pairs) ≡ list_all (λ pair. is_index l.count pair.index) l.pairs
