use Rattle.std.proofs.Common.{map, refl}
use Rattle.plan_build.specs.Nodes.{implicit_numbers, node_name}
use Rattle.plan_build.proofs.NodeOrders.{named_order}
use Rattle.plan_build.proofs.laws.nodes_stand_in_order.Goals as goal

pub returns : goal.returns
returns c = λ config order sound accepted goes. record {
  said = refl;
  ordered = named_order config sound accepted (implicit_numbers config.scheme) order (map (node_name (implicit_numbers config.scheme)) order) refl refl goes;
}
