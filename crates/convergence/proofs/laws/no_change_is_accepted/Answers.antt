use Rattle.convergence.proofs.NoChange.{norm_of_no_change}
use Rattle.convergence.proofs.laws.no_change_is_accepted.Goals as goal

pub returns-clause-norm : goal.returns-clause-norm
returns-clause-norm c = norm_of_no_change
