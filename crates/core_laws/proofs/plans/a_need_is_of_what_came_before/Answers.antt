use Rattle.core_laws.proofs.PlanNeeds.{came_before, is_asked}
use Rattle.core_laws.proofs.plans.a_need_is_of_what_came_before.Goals as goal

pub returns-clause-item : goal.returns-clause-item
returns-clause-item c = λ plan part w k need valid below inside. came_before plan valid part w k need below inside

pub returns-clause-owner : goal.returns-clause-owner
returns-clause-owner c = λ plan part w k need inside. let own = is_asked plan part w k need inside in (own.1, own.0.other)
