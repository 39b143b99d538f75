use Rattle.std.proofs.Common.{◌≡◌, take, length, All}
use Rattle.std.specs.List.{sum_by}
use Rattle.acceleration.specs.Differences.{IsDifference}
use Rattle.acceleration.specs.Exchanged.{exchanged}
use Rattle.acceleration.specs.Residual.{residual, width}
use Rattle.acceleration.proofs.residual.Residual.of.Given as goal

abbrev pub invariant-loop-place : goal.invariant-loop-place
invariant-loop-place l =
    (l.entries.items ≡ residual (take l.place (exchanged l.degrees l.read l.posted)))
    × All IsDifference l.entries.items
    × (length l.entries.items ≡ sum_by width (take l.place l.posted))
