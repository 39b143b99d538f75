use Rattle.std.proofs.Common.{◌≡◌, ℕ, ◌+◌, ◌^◌, ◌<◌, ◌≤◌, pos, ◌+ℤ◌, unsigned_abs, get_or}
use Rattle.edge_projection.specs.MappedField.{part_of}
use Rattle.edge_projection.proofs.sums.add_row.Given as goal

abbrev pub invariant-loop-c : goal.invariant-loop-c
invariant-loop-c l = record {
  added : (k : ℕ) → k < l.c → get_or l.sums k (pos 0) ≡ get_or l.fn.sums k (pos 0) +ℤ part_of l.rest l.weight (get_or l.values k (pos 0));
  bound : (k : ℕ) → k < l.c → unsigned_abs (get_or l.sums k (pos 0)) ≤ unsigned_abs (get_or l.fn.sums k (pos 0)) + 10 ^ 13;
  rest : (k : ℕ) → l.c ≤ k → get_or l.sums k (pos 0) ≡ get_or l.fn.sums k (pos 0);
}
