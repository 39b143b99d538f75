use Rattle.plan_build.proofs.OnePlan.{one_plan}
use Rattle.plan_build.proofs.laws.there_is_one_plan.Goals as goal

pub returns : goal.returns
returns c = one_plan
