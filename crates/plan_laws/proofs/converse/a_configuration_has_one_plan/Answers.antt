use Rattle.plan_laws.proofs.OnePlan.{one_plan}
use Rattle.plan_laws.proofs.converse.a_configuration_has_one_plan.Goals as goal

pub returns : goal.returns
returns c = one_plan
