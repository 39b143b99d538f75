use Rattle.std.proofs.Common.{take}
use Rattle.std.specs.Prelude.{All}
use Rattle.call_parts.specs.InputLengths.{HasLengths}
use Rattle.call_parts.proofs.waves.has_lengths.Given as goal

-- so far each sample has these lengths
abbrev pub invariant-loop-i : goal.invariant-loop-i
invariant-loop-i l = All (HasLengths l.lengths.components l.lengths.values) (take l.i l.wave)
