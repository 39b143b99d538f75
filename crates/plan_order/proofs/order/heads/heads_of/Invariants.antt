use Rattle.std.proofs.Common.{◌≡◌, map, take}
use Rattle.plan_order.specs.Heads.{head_of}
use Rattle.plan_order.proofs.order.heads.heads_of.Given as goal

abbrev pub invariant-loop-node : goal.invariant-loop-node
invariant-loop-node l = l.heads.items ≡ map (head_of (map (λ group. group.items) l.groups)) (take l.node-index l.nodes)
