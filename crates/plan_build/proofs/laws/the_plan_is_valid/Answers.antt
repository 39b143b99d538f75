use Rattle.plan_build.proofs.Valid.{valid_plan}
use Rattle.plan_build.proofs.laws.the_plan_is_valid.Goals as goal

pub returns : goal.returns
returns c = valid_plan
