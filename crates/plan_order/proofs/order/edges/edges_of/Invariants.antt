use Rattle.std.proofs.Common.{◌≡◌, take}
use Rattle.plan_order.specs.Edges.{edges_of}
use Rattle.plan_order.proofs.order.edges.edges_of.Given as goal

abbrev pub invariant-loop-pair : goal.invariant-loop-pair
invariant-loop-pair l = l.edges.items ≡ edges_of l.heads (take l.pair-index l.pairs)
