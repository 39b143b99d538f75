use Rattle.std.proofs.Common.{◌≡◌, drop, position}
use Rattle.std.specs.List.{position_from}
use Rattle.convergence.specs.Verdict.{is_failing}
use Rattle.convergence.proofs.measures.Measures.first_failing.Given as goal

abbrev pub invariant-loop-place : goal.invariant-loop-place
invariant-loop-place l = position_from is_failing l.place (drop l.place l.self) ≡ position is_failing l.self
