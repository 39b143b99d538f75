use Rattle.std.proofs.Common.{◌≡◌, drop}
use Rattle.std.specs.List.{list_any}
use Rattle.convergence.specs.Verdict.{is_sufficient}
use Rattle.convergence.proofs.measures.Measures.one_suffices.Given as goal

abbrev pub invariant-loop-place : goal.invariant-loop-place
invariant-loop-place l = list_any is_sufficient (drop l.place l.self) ≡ list_any is_sufficient l.self
