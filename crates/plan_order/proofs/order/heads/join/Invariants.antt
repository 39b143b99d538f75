use Rattle.std.proofs.Common.{◌≡◌, ℕ, Contains, take, slice_index_or}
use Rattle.std.specs.List.{HoldsAt}
use Rattle.plan_order.specs.declared.node.Node.{Node}
use Rattle.plan_order.specs.declared.node.Node.TheVariants.{Group}
use Rattle.plan_order.proofs.order.heads.join.Given as goal

abbrev pub invariant-loop-part : goal.invariant-loop-part
invariant-loop-part l = record {
  joined : (part : ℕ) → Contains (take l.part-index l.group) part → HoldsAt (λ node. node ≡ Group l.number) l.nodes part;
  others : (part : ℕ) (other : Node) → ¬ Contains l.group part → slice_index_or l.nodes part other ≡ slice_index_or l.initial.nodes part other;
}
