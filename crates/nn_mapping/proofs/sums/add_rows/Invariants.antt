use Rattle.std.proofs.Common.{◌≡◌, ℕ, ◌+◌, ◌*◌, ◌^◌, ◌<◌, ◌≤◌, All, pos, unsigned_abs, length, get_or}
use Rattle.nn_mapping.specs.MappedField.{sum_over}
use Rattle.nn_mapping.proofs.SourceSums.{sources_before}
use Rattle.nn_mapping.proofs.sums.add_rows.Given as goal

-- the sums over the sources before s
abbrev pub invariant-loop-s : goal.invariant-loop-s
invariant-loop-s l = record {
  sums : (v c : ℕ) → v * l.row + l.row ≤ length l.sums → c < l.row → get_or l.sums (v * l.row + c) (pos 0) ≡ sum_over l.field c (sources_before l.nearest v l.s);
  bound : All (λ sum. unsigned_abs sum ≤ l.s * 10 ^ 13) l.sums;
}
