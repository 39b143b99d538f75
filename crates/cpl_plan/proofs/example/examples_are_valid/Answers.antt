use Rattle.std.proofs.Common.{refl}
use Rattle.cpl_plan.specs.ExamplePlan.{example_plan}
use Rattle.cpl_plan.specs.SmallPlans.{first_step_plan, iterated_plan, serial_iterated_plan, fan, wide}
use Rattle.cpl_plan.proofs.ExampleOrder.{example_in_order, iterated_in_order, serial_iterated_in_order, fan_in_order, wide_in_order, first_step_in_order}
use Rattle.cpl_plan.proofs.FactsTold.{valid_plan}
use Rattle.cpl_plan.proofs.example.examples_are_valid.Goals as goal

pub returns-clause-each_kind : goal.returns-clause-each_kind
returns-clause-each_kind c = valid_plan example_plan refl example_in_order

pub returns-clause-iterated : goal.returns-clause-iterated
returns-clause-iterated c = valid_plan iterated_plan refl iterated_in_order

pub returns-clause-serial_iterated : goal.returns-clause-serial_iterated
returns-clause-serial_iterated c = valid_plan serial_iterated_plan refl serial_iterated_in_order

pub returns-clause-fan : goal.returns-clause-fan
returns-clause-fan c = valid_plan fan refl fan_in_order

pub returns-clause-wide : goal.returns-clause-wide
returns-clause-wide c = valid_plan (wide 6) refl wide_in_order

pub returns-clause-first_step : goal.returns-clause-first_step
returns-clause-first_step c = valid_plan first_step_plan refl first_step_in_order
