use Rattle.case_rigs.proofs.RigsFit.{rigs_fit}
use Rattle.case_rigs.proofs.laws.rigs_fit_the_plan.Goals as goal

pub returns : goal.returns
returns c = rigs_fit
