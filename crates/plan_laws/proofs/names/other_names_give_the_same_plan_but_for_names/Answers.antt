use Rattle.plan_build.proofs.Valid.{valid_plan}
use Rattle.plan_laws.proofs.OnePlan.{same_but_for_names}
use Rattle.plan_laws.proofs.names.other_names_give_the_same_plan_but_for_names.Goals as goal

pub returns : goal.returns
returns c = λ names config plan other apart sound accepted is its.
    same_but_for_names names config plan other apart (valid_plan config plan sound accepted is) is its
