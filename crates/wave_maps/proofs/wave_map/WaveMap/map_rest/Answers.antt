use Rattle.std.proofs.Common.{ℕ, ◌<◌, Ok, length, arith, ap, ◌∙◌}
use Rattle.waveform.specs.declared.sample.Sample.{Sample}
use Rattle.wave_maps.proofs.Samples.{time_is}
use Rattle.wave_maps.proofs.Through.{more}
use Rattle.wave_maps.proofs.wave_map.WaveMap.map_rest.Goals as goal

pub loop-i-preserved : goal.loop-i-preserved
loop-i-preserved c =
    let inside : c.loop-i.i < length c.args.wave.now = omega (arith, c.loop-i-test.true, c.len-samples.ensures.count) in
    let time = time_is c.args.wave.now c.loop-i.i c.time-in-loop-i.result c.time-in-loop-i.ensures inside in
    let sample : ℕ → Sample = λ t. record { time = t; field = c.in_ok-field.field } in
    let mapped = c.in_ok-field.ensures.mapped ∙ ap (λ (t : ℕ). Ok (sample t)) time in (
      rw c.in_ok-push_sample.ensures.pushed (more c.args.self.now c.args.wave.now c.loop-i.mapped c.loop-i.i (sample c.time-in-loop-i.result) inside mapped c.loop-i.invariant.0),
      omega arith,
    )
