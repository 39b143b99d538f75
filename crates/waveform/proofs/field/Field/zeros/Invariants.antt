use Rattle.std.proofs.Common.{◌≡◌, pos, replicate}
use Rattle.waveform.proofs.field.Field.zeros.Given as goal

abbrev pub invariant-loop : goal.invariant-loop
invariant-loop l = l.values.items ≡ replicate l.counter (pos 0)
