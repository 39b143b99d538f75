use Rattle.std.proofs.Common.{◌≡◌, take, length, All}
use Rattle.fixed_num.specs.Numbers.{IsValue}
use Rattle.waveform.proofs.reading.write_values.Given as goal

abbrev pub invariant-loop-i : goal.invariant-loop-i
invariant-loop-i l =
    (length l.out ≡ length l.fn.out)
    × (take l.i l.out ≡ take l.i l.field.values)
    × (All IsValue (take l.i l.out))
