use Rattle.plan_order.proofs.Orders.{next_at, all_placed, only_nodes}
use Rattle.plan_order.proofs.order_laws.nodes_stand_once_and_in_turn.Goals as goal

pub returns-clause-only : goal.returns-clause-only
returns-clause-only c = λ members pairs order is node inside. only_nodes members pairs order is node inside

pub returns-clause-all : goal.returns-clause-all
returns-clause-all c = λ members pairs order is node has. all_placed members pairs order is node has

pub returns-clause-once : goal.returns-clause-once
returns-clause-once c = λ members pairs order before after node is e. (next_at members pairs order before node after is e).ready.unplaced

pub returns-clause-in_turn : goal.returns-clause-in_turn
returns-clause-in_turn c = λ members pairs order before after node other is e stands. (next_at members pairs order before node after is e).ready.released other stands
