use Rattle.cpl_plan.proofs.FactsTold.{nothing_broken, valid_plan}
use Rattle.cpl_plan.proofs.laws.validity_is_tested.Goals as goal

pub returns-clause-told : goal.returns-clause-told
returns-clause-told c = λ plan is. nothing_broken plan is

pub returns-clause-enough : goal.returns-clause-enough
returns-clause-enough c = λ plan none order. valid_plan plan none order
