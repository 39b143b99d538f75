use Rattle.std.proofs.Common.{◌≡◌, take}
use Rattle.wave_reading.specs.Places.{line_values}
use Rattle.wave_reading.proofs.reading.write_line.Given as goal

abbrev pub invariant-loop-i : goal.invariant-loop-i
invariant-loop-i l = take l.i l.out ≡ take l.i (line_values l.span.start l.span.end l.span.t l.first l.last)
