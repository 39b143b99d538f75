use Rattle.acceleration.proofs.FirstOverflows.{iterate-undefined, iterate-waves, iterate-in_range}
use Rattle.acceleration.proofs.laws.undefined_at_the_first_overflow.Goals as goal

pub returns : goal.returns
returns c = record { undefined = iterate-undefined; waves = iterate-waves; defined = iterate-in_range }
