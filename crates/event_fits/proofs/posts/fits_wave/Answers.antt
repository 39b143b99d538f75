use Rattle.std.proofs.Common.{◌≡◌, true}
use Rattle.event_fits.proofs.WavesFit.{initial_fits, span_fits}
use Rattle.event_fits.proofs.posts.fits_wave.Goals as goal

pub returns-in-None : goal.returns-in-None
returns-in-None c = λ yes.
    let lengths : c.is_of_lengths.result ≡ true = cc in
    initial_fits c.args.plan.now c.args.sides.now c.args.exchange.now c.lengths_of-lengths.result.components c.lengths_of-lengths.result.values
    c.lengths_of-lengths.ensures.components c.lengths_of-lengths.ensures.values c.args.wave.now c.is_of_lengths.ensures.wave (c.is_of_lengths.ensures.lengths lengths) c.args.span
    c.in-None.is (c.stands_at_0.ensures.one yes) (c.stands_at_0.ensures.start yes)

pub returns-in-Some : goal.returns-in-Some
returns-in-Some c = λ yes.
    let lengths : c.is_of_lengths.result ≡ true = cc in
    span_fits c.args.plan.now c.args.sides.now c.args.exchange.now c.lengths_of-lengths.result.components c.lengths_of-lengths.result.values
    c.lengths_of-lengths.ensures.components c.lengths_of-lengths.ensures.values c.args.wave.now c.is_of_lengths.ensures.wave (c.is_of_lengths.ensures.lengths lengths) c.args.span
    c.in-Some.span c.in-Some.is (c.stands_in.ensures.later yes) (c.stands_in.ensures.end yes) (c.stands_in.ensures.few yes) (c.stands_in.ensures.without_substeps yes) (c.stands_in.ensures.of_one_step yes)
