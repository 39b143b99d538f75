use Rattle.std.proofs.Common.{◌≡◌, ◌↔◌, ℕ, take, slice_index, Contains, IsTrue}
use Rattle.std.specs.Ordering.{nat_cmp}
use Rattle.std.specs.BTreeSet.{contains}
use Rattle.plan_order.proofs.order.placing.ready_at_first.Given as goal

abbrev pub invariant-loop-id : goal.invariant-loop-id
invariant-loop-id l =
    (b : ℕ) → IsTrue (contains nat_cmp l.ready b) ↔ (Contains (take l.id-index l.ids) b × (slice_index l.waits b ≡ 0))
