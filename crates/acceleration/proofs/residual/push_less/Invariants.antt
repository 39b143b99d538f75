use Rattle.std.proofs.Common.{◌≡◌, ◌++◌, take, All}
use Rattle.acceleration.specs.Differences.{IsDifference}
use Rattle.acceleration.specs.Residual.{less}
use Rattle.acceleration.proofs.residual.push_less.Given as goal

abbrev pub invariant-loop-i : goal.invariant-loop-i
invariant-loop-i l =
    (l.entries.items ≡ l.fn.entries.items ++ take l.i (less l.posted l.read))
    × All IsDifference (take l.i (less l.posted l.read))
