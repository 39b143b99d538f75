use Rattle.std.proofs.Common.{◌≡◌, ◌↔◌, ◌⊎◌, ℕ, ◌+◌, ◌==◌, take, count_by, slice_index, Contains, IsTrue}
use Rattle.std.specs.Ordering.{nat_cmp}
use Rattle.std.specs.BTreeSet.{contains}
use Rattle.plan_order.proofs.order.placing.release.Given as goal

abbrev pub invariant-loop-end : goal.invariant-loop-end
invariant-loop-end l = record {
  waits : (b : ℕ) → slice_index l.waits b + count_by (λ end. end == b) (take l.end-index l.ends) ≡ slice_index l.initial.waits b;
  ready : (b : ℕ) → IsTrue (contains nat_cmp l.ready b)
      ↔ (IsTrue (contains nat_cmp l.initial.ready b) ⊎ (Contains (take l.end-index l.ends) b × (slice_index l.waits b ≡ 0)));
}
