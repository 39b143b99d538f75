use Rattle.plan_order.proofs.Orders.{no_cycle}
use Rattle.plan_order.proofs.order_laws.cycle_has_no_order.Goals as goal

pub returns : goal.returns
returns c = λ members pairs order cycle is. no_cycle members pairs order is cycle
