use Rattle.plan_order.proofs.SomeOrder.{some_order}
use Rattle.plan_order.proofs.order_laws.no_cycle_has_an_order.Goals as goal

pub returns : goal.returns
returns c = λ members pairs nodes all no_cycle. some_order members pairs nodes all no_cycle
