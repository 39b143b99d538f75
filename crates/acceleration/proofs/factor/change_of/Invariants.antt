use Rattle.std.proofs.Common.{◌≡◌, ◌*◌, ◌^◌, ◌≤◌, take, All, unsigned_abs}
use Rattle.acceleration.specs.Residual.{less}
use Rattle.acceleration.proofs.factor.change_of.Given as goal

abbrev pub invariant-loop-i : goal.invariant-loop-i
invariant-loop-i l =
    (l.change.items ≡ take l.i (less l.now l.before)) × All (λ x. unsigned_abs x ≤ 4 * 10 ^ 13) l.change.items
