use Rattle.std.proofs.Common.{◌≡◌, ℕ, ◌<◌, ◌==◌, length, count_by}
use Rattle.std.specs.List.{HoldsAt}
use Rattle.plan_order.proofs.order.edges.no_ends.Given as goal

abbrev pub invariant-loop : goal.invariant-loop
invariant-loop l =
    (length l.after.items ≡ l.counter)
    × ((a b : ℕ) → a < l.counter → HoldsAt (λ ends. count_by (λ end. end == b) ends.items ≡ 0) l.after.items a)
