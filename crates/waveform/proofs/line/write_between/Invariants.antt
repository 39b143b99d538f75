use Rattle.std.proofs.Common.{◌≡◌, take, length, All}
use Rattle.fixed_num.specs.Numbers.{IsValue}
use Rattle.waveform.specs.WaveValue.{values_between}
use Rattle.waveform.proofs.line.write_between.Given as goal

abbrev pub invariant-loop-i : goal.invariant-loop-i
invariant-loop-i l =
    (length l.out ≡ length l.fn.out)
    × (take l.i l.out ≡ take l.i (values_between l.before l.after l.t))
    × (All IsValue (take l.i l.out))
