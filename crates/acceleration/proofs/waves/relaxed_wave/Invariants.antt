use Rattle.std.proofs.Common.{◌≡◌, length}
use Rattle.acceleration.specs.Exchanged.{exchange_of}
use Rattle.acceleration.specs.Residual.{width}
use Rattle.acceleration.proofs.Fronts.{IsFront}
use Rattle.acceleration.proofs.waves.relaxed_wave.Given as goal

abbrev pub invariant-loop-i : goal.invariant-loop-i
invariant-loop-i l =
    (length l.room.items ≡ width l.posted)
    × IsFront l.step.factor l.step.place l.i (exchange_of l.step.degree l.read l.posted) l.wave
