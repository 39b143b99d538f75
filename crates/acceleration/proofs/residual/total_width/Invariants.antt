use Rattle.std.proofs.Common.{◌≡◌, take}
use Rattle.std.specs.List.{sum_by}
use Rattle.acceleration.specs.Residual.{width}
use Rattle.acceleration.proofs.residual.total_width.Given as goal

abbrev pub invariant-loop-wave : goal.invariant-loop-wave
invariant-loop-wave l = l.total ≡ sum_by width (take l.wave-index l.waves)
