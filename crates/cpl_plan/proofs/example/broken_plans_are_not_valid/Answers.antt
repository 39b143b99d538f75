use Rattle.cpl_plan.proofs.Broken.{as_told, some_plans, told_too, not_valid}
use Rattle.cpl_plan.proofs.BrokenOrders.{none_in_order, least_first}
use Rattle.cpl_plan.proofs.example.broken_plans_are_not_valid.Goals as goal

pub returns-clause-broken : goal.returns-clause-broken
returns-clause-broken c = as_told

pub returns-clause-some : goal.returns-clause-some
returns-clause-some c = some_plans

pub returns-clause-this : goal.returns-clause-this
returns-clause-this c = told_too

pub returns-clause-invalid : goal.returns-clause-invalid
returns-clause-invalid c = not_valid

pub returns-clause-orders : goal.returns-clause-orders
returns-clause-orders c = none_in_order

pub returns-clause-least_first : goal.returns-clause-least_first
returns-clause-least_first c = least_first
