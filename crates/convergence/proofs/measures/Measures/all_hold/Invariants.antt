use Rattle.std.proofs.Common.{◌≡◌, drop}
use Rattle.std.specs.List.{list_all}
use Rattle.convergence.specs.Holds.{holds}
use Rattle.convergence.proofs.measures.Measures.all_hold.Given as goal

abbrev pub invariant-loop-place : goal.invariant-loop-place
invariant-loop-place l = list_all holds (drop l.place l.self) ≡ list_all holds l.self
