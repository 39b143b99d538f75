use Rattle.line_solvers.proofs.RestingSolvers.{rest_stays}
use Rattle.line_solvers.proofs.laws.a_spring_at_rest_stays_so.Goals as goal

pub returns : goal.returns
returns c = rest_stays
