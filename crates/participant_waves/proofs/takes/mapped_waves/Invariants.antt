use Rattle.std.proofs.Common.{◌≡◌, zip}
use Rattle.participant_waves.specs.TakenWaves.{wave_taken}
use Rattle.participant_waves.proofs.Made.{GoesOn}
use Rattle.participant_waves.proofs.takes.mapped_waves.Given as goal

abbrev pub invariant-loop-i : goal.invariant-loop-i
invariant-loop-i l = record {
  same : l.takings ≡ l.initial.takings;
  waves : GoesOn (wave_taken l.part l.window l.iteration) (zip l.initial.takings l.inputs) l.waves.items l.i;
}
