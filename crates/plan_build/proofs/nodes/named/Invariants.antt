use Rattle.std.proofs.Common.{◌≡◌, map, take}
use Rattle.plan_build.specs.Nodes.{node_name}
use Rattle.plan_build.proofs.nodes.named.Given as goal

abbrev pub invariant-nodes : goal.invariant-nodes
invariant-nodes l = l.named.items ≡ map (node_name l.numbers) (take l.node-index l.nodes)
