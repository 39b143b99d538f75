use Rattle.std.proofs.Common.{◌≡◌, ℕ, ◌<◌, length}
use Rattle.std.specs.List.{HoldsAt}
use Rattle.plan_order.specs.declared.node.Node.TheVariants.{Single}
use Rattle.plan_order.proofs.order.heads.singles.Given as goal

abbrev pub invariant-loop-part : goal.invariant-loop-part
invariant-loop-part l =
    (length l.nodes.items ≡ l.part)
    × ((part : ℕ) → part < l.part → HoldsAt (λ node. node ≡ Single part) l.nodes.items part)
