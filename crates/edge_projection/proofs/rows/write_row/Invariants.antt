use Rattle.std.proofs.Common.{◌≡◌, ℕ, ◌<◌, get_or, pos}
use Rattle.edge_projection.specs.MappedField.{between}
use Rattle.edge_projection.proofs.rows.write_row.Given as goal

abbrev pub invariant-loop-c : goal.invariant-loop-c
invariant-loop-c l = (k : ℕ) → k < l.c → get_or l.out k (pos 0) ≡ between l.weight (get_or l.first k (pos 0)) (get_or l.last k (pos 0))
