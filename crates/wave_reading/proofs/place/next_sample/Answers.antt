use Rattle.std.proofs.Common.{◌<◌, length, arith}
use Rattle.wave_reading.proofs.FoundPlaces.{time_told, before_more, later_from}
use Rattle.wave_reading.proofs.place.next_sample.Goals as goal

pub returns-then-t-time-clause-later : goal.returns-then-t-time-clause-later
returns-then-t-time-clause-later c =
    let inside : c.loop-i.i < length c.args.wave.now = omega (arith, c.loop-i-test.true, c.len-last.ensures.count) in
    later_from c.args.wave.now c.args.t c.loop-i.i c.len-last.ensures.wave.rising
    (λ d. omega (arith, time_told c.args.wave.now c.loop-i.i c.time.result d c.time.ensures inside, c.if-t-time.true))

pub loop-i-preserved : goal.loop-i-preserved
loop-i-preserved c =
    let inside : c.loop-i.i < length c.args.wave.now = omega (arith, c.loop-i-test.true, c.len-last.ensures.count) in
    before_more c.args.wave.now c.args.t c.loop-i.i c.time.result c.time.ensures inside (omega (arith, c.if-t-time.false)) c.loop-i.invariant
