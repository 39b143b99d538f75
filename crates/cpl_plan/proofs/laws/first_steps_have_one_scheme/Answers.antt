use Rattle.cpl_plan.proofs.FirstStep.{one_scheme, to_second}
use Rattle.cpl_plan.proofs.laws.first_steps_have_one_scheme.Goals as goal

pub returns-clause-scheme : goal.returns-clause-scheme
returns-clause-scheme c = λ plan valid method. one_scheme plan valid method

pub returns-clause-to_second : goal.returns-clause-to_second
returns-clause-to_second c = λ plan valid method. to_second plan valid method
