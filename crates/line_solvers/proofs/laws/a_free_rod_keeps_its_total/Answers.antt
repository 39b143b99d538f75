use Rattle.line_solvers.proofs.RodTotals.{rod_total}
use Rattle.line_solvers.proofs.laws.a_free_rod_keeps_its_total.Goals as goal

pub returns : goal.returns
returns c = rod_total
