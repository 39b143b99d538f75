use Rattle.std.proofs.Common.{◌≡◌, sym, ap, ◌∙◌, arith}
use Rattle.std.proofs.lemmas.Option.{get_or_from_slice_get}
use Rattle.waveform.specs.IsWave.{last_time}
use Rattle.wave_coupling.specs.Posts.{Wave, newest_time}
use Rattle.event_fits.proofs.Samples.{all_next, all_of}
use Rattle.event_fits.proofs.posts.end_together.Goals as goal

pub loop-i-preserved : goal.loop-i-preserved
loop-i-preserved c = all_next (λ wave. last_time wave ≡ newest_time c.args.waves.now) c.args.waves.now c.loop-i.i (omega arith) c.loop-i.invariant
    (λ wave is.
    let same : wave ≡ c.index-waves-i.result = sym (get_or_from_slice_get c.args.waves.now c.loop-i.i wave c.index-waves-i.result is) ∙ sym c.index-waves-i.is in
    let ends : c.last_time.result ≡ c.newest_time-newest.result = omega arith in
    ap (λ (w : Wave). last_time w) same ∙ sym c.last_time.ensures ∙ ends ∙ c.newest_time-newest.ensures)

pub returns : goal.returns
returns c = λ yes. all_of (λ wave. last_time wave ≡ newest_time c.args.waves.now) c.args.waves.now c.loop-i.i (omega arith) c.loop-i.invariant
