use Rattle.std.proofs.Common.{nat_eq}
use Rattle.group_course.proofs.Scans.{position-from_front}
use Rattle.group_course.proofs.places.place_of.Goals as goal

pub loop-place-init : goal.loop-place-init
loop-place-init c = position-from_front (nat_eq c.args.x) c.args.exchanges.now
