use Rattle.std.proofs.Common.{refl}
use Rattle.cpl_plan.specs.ExamplePlan.{two_participants}
use Rattle.cpl_plan.proofs.ExampleOrder.{two_in_order}
use Rattle.cpl_plan.proofs.FactsTold.{valid_plan}
use Rattle.cpl_plan.proofs.example.two_participants_are_valid.Goals as goal

pub returns : goal.returns
returns c = valid_plan two_participants refl two_in_order
