use Rattle.std.proofs.Common.{◌≡◌, ◌<◌, [], length, slice_get, get_or, Some, true, arith}
use Rattle.std.proofs.lemmas.Bool.Decides.{nat_tests}
use Rattle.std.proofs.lemmas.Option.{slice_get-get_or}
use Rattle.event_fits.proofs.Checked.{none_checked, own_checked, all_checked}
use Rattle.event_fits.proofs.posts.are_waves.Goals as goal

pub loop-x-init : goal.loop-x-init
loop-x-init c = none_checked c.args.plan.now c.args.sides.now c.args.p c.args.waves.now c.args.span

pub loop-x-preserved : goal.loop-x-preserved
loop-x-preserved c =
    let waves = c.args.waves.now in
    let place = c.loop-x.place in
    let yes : c.fits_next.result ≡ true = cc in
    let below : place < length waves = c.fits_next.ensures.there yes in
    let there : slice_get waves place ≡ Some (get_or waves place []) = slice_get-get_or waves place [] below in
    let own : c.exchange-exchange.result.now.from ≡ c.args.p = grind (arith, nat_tests) in
    own_checked c.args.plan.now c.args.sides.now c.args.p waves c.args.span c.loop-x.x c.exchange-exchange.result.now c.exchange-exchange.ensures place c.loop-x.invariant
    own (get_or waves place []) there (c.fits_next.ensures.fits yes (get_or waves place []) there)

pub returns : goal.returns
returns c = λ yes.
    let whole : c.loop-x.place ≡ length c.args.waves.now = grind (arith, nat_tests) in
    all_checked c.args.plan.now c.args.sides.now c.args.p c.args.waves.now c.args.span c.loop-x.x c.loop-x.place (omega arith) whole c.loop-x.invariant
