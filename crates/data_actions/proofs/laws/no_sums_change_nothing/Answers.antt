use Rattle.data_actions.proofs.NoSums.{solver-none}
use Rattle.data_actions.proofs.laws.no_sums_change_nothing.Goals as goal

pub returns : goal.returns
returns g c = solver-none
