use Rattle.plan_order.proofs.Orders.{only_order}
use Rattle.plan_order.proofs.order_laws.order_is_the_only_one.Goals as goal

pub returns : goal.returns
returns c = λ members pairs order other apart one two. only_order members pairs apart order other one two
