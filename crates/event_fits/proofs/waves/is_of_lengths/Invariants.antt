use Rattle.std.proofs.Common.{take}
use Rattle.std.specs.Prelude.{All}
use Rattle.event_fits.specs.Shapes.{IsOfLengths}
use Rattle.event_fits.proofs.waves.is_of_lengths.Given as goal

abbrev pub invariant-loop-i : goal.invariant-loop-i
invariant-loop-i l = All (IsOfLengths l.lengths.components l.lengths.values) (take l.i l.wave)
