use Rattle.std.proofs.Common.{◌≡◌, ℕ, ◌<◌, ◌==◌, length, take, count_by}
use Rattle.std.specs.List.{HoldsAt}
use Rattle.plan_order.specs.Edges.{edges_between}
use Rattle.plan_order.proofs.order.edges.ends_after.Given as goal

abbrev pub invariant-loop-edge : goal.invariant-loop-edge
invariant-loop-edge l =
    (length l.after.items ≡ l.count)
    × ((a b : ℕ) → a < l.count → HoldsAt (λ ends. count_by (λ end. end == b) ends.items ≡ edges_between (take l.edge-index l.edges) a b) l.after.items a)
