use Rattle.std.proofs.Common.{◌≡◌, ℕ, ◌+◌, ◌*◌, ◌^◌, ◌<◌, ◌≤◌, All, pos, unsigned_abs, length, get_or}
use Rattle.edge_projection.specs.MappedField.{total, given_by}
use Rattle.edge_projection.proofs.sums.add_feet.Given as goal

-- what the sources before u give
abbrev pub invariant-loop-u : goal.invariant-loop-u
invariant-loop-u l = record {
  sums : (v c : ℕ) → v * l.field.components + l.field.components ≤ length l.sums → c < l.field.components → get_or l.sums (v * l.field.components + c) (pos 0) ≡ total (given_by l.feet l.field c v) l.u;
  bound : All (λ sum. unsigned_abs sum ≤ l.u * (2 * 10 ^ 13)) l.sums;
}
