use Rattle.acceleration.specs.Exchanged.{exchanged}
use Rattle.acceleration.proofs.WaveLists.{AreFront}
use Rattle.acceleration.proofs.waves.relaxed_waves.Given as goal

abbrev pub invariant-loop-i : goal.invariant-loop-i
invariant-loop-i l = AreFront l.factor l.i (exchanged l.degrees l.read l.posted) l.waves.items
