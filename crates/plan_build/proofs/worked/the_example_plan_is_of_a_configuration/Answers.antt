use Rattle.std.proofs.Common.{refl}
use Rattle.cpl_plan.proofs.ExampleOrder.{example_in_order}
use Rattle.plan_build.proofs.worked.the_example_plan_is_of_a_configuration.Goals as goal

pub returns : goal.returns
returns c = record {
  said = refl;
  ordered = example_in_order;
}
