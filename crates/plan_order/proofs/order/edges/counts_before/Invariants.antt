use Rattle.std.proofs.Common.{◌≡◌, ℕ, length, take, slice_index}
use Rattle.plan_order.specs.Edges.{edges_to}
use Rattle.plan_order.proofs.order.edges.counts_before.Given as goal

abbrev pub invariant-loop-edge : goal.invariant-loop-edge
invariant-loop-edge l =
    (length l.counts.items ≡ l.count)
    × ((b : ℕ) → slice_index l.counts.items b ≡ edges_to (take l.edge-index l.edges) b)
