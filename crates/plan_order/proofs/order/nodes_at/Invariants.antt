use Rattle.std.proofs.Common.{◌≡◌, map, take, slice_index_or}
use Rattle.plan_order.specs.declared.node.Node.TheVariants.{Single}
use Rattle.plan_order.proofs.order.nodes_at.Given as goal

abbrev pub invariant-loop-place : goal.invariant-loop-place
invariant-loop-place l = l.found.items ≡ map (λ place. slice_index_or l.nodes place (Single 0)) (take l.place-index l.places)
