use Rattle.std.proofs.Common.{◌≡◌, ◌≤◌, ◌+◌, ◌*◌, ◌^◌, ℕ, ℤ, pos, ◌+ℤ◌, fold, take, unsigned_abs}
use Rattle.data_actions.specs.Totals.{value_at}
use Rattle.data_actions.proofs.sums.total_at.Given as goal

abbrev pub invariant-loop-source : goal.invariant-loop-source
invariant-loop-source l =
    (l.so_far ≡ fold (λ (so_far : ℤ) (source : ℕ). so_far +ℤ value_at l.values (source + l.offset)) (pos 0) (take l.source-index l.sources))
    × (unsigned_abs l.so_far ≤ l.source-index * 10 ^ 13)
