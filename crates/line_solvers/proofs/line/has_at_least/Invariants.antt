use Rattle.std.proofs.Common.{◌≡◌, false, take, unsigned_abs}
use Rattle.std.specs.Prelude.{nat_le}
use Rattle.std.specs.List.{list_any}
use Rattle.line_solvers.proofs.line.has_at_least.Given as goal

abbrev pub invariant-loop-units : goal.invariant-loop-units
invariant-loop-units l = list_any (λ units. nat_le l.bound (unsigned_abs units)) (take l.units-index l.components) ≡ false
