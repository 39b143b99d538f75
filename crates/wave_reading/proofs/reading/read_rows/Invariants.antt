use Rattle.std.proofs.Common.{◌≡◌, ◌*◌, take}
use Rattle.waveform.specs.WaveValue.{read}
use Rattle.field_buffers.specs.Rows.{rows_of}
use Rattle.wave_reading.proofs.reading.read_rows.Given as goal

-- the rows of the vertices so far
abbrev pub invariant-loop-i : goal.invariant-loop-i
invariant-loop-i l =
    take (l.i * l.components) l.out ≡ rows_of l.components (take l.i l.vertices) (read l.wave l.degree l.t)
