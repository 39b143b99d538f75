use Rattle.std.proofs.Common.{arith}
use Rattle.waveform.specs.WaveValue.{read}
use Rattle.wave_reading.specs.Places.{values_at}
use Rattle.wave_reading.proofs.ReadRows.{read_more}
use Rattle.wave_reading.proofs.reading.read_rows.Goals as goal

pub loop-i-preserved : goal.loop-i-preserved
loop-i-preserved c =
    read_more c.args.components c.loop-i.i _ _ c.args.vertices.now (read c.args.wave.now c.args.degree c.args.t) (values_at c.args.wave.now c.args.t c.place_of-place.result) c.loop-i.out
    c.read_row.new.out c.loop-i-test.true (omega (arith, c.loop-i.auto.out, c.requires.len)) (omega (arith, c.read_row.auto.out)) (omega arith) c.place_of-place.ensures.values
    c.read_row.ensures c.loop-i.invariant
