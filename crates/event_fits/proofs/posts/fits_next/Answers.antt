use Rattle.std.proofs.Common.{◌≡◌, List, subst, ◌∙◌}
use Rattle.std.proofs.lemmas.Option.{get_or_from_slice_get}
use Rattle.waveform.specs.declared.sample.Sample.{Sample}
use Rattle.event_fits.proofs.Checked.{FitsKept}
use Rattle.event_fits.proofs.posts.fits_next.Goals as goal

pub returns-clause-fits : goal.returns-clause-fits
returns-clause-fits c = λ yes wave is.
    let same : c.index-waves-place.result ≡ wave =
    c.index-waves-place.is ∙ get_or_from_slice_get c.args.waves.now c.args.place wave c.index-waves-place.result is in
    subst (λ (w : List Sample). FitsKept c.args.plan.now c.args.sides.now c.args.span c.args.exchange.now w) same (c.fits_wave.ensures yes)
