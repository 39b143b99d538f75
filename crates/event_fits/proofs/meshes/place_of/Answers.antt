use Rattle.std.proofs.Common.{nat_eq, sym}
use Rattle.std.proofs.lemmas.Iterator.Adapters.{position_from-zero}
use Rattle.event_fits.proofs.meshes.place_of.Goals as goal

pub loop-place-init : goal.loop-place-init
loop-place-init c = sym (position_from-zero (nat_eq c.args.number) c.args.numbers.now)
