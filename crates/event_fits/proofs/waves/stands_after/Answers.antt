use Rattle.std.proofs.Common.{◌≡◌, ◌<◌, arith}
use Rattle.event_fits.proofs.Samples.{all_next, all_of, mapped_is}
use Rattle.event_fits.proofs.waves.stands_after.Goals as goal

pub loop-i-preserved : goal.loop-i-preserved
loop-i-preserved c = all_next (λ s. c.args.start < s.time) c.args.wave.now c.loop-i.i (omega arith) c.loop-i.invariant
    (λ s is. let same : s.time ≡ c.time.result = mapped_is (λ s. s.time) c.args.wave.now c.loop-i.i s c.time.result is c.time.ensures in omega arith)

pub returns : goal.returns
returns c = λ yes. all_of (λ s. c.args.start < s.time) c.args.wave.now c.loop-i.i (omega arith) c.loop-i.invariant
