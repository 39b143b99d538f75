use Rattle.std.proofs.Common.{ℕ, arith}
use Rattle.std.proofs.lemmas.List.Sums.{sum_by-take-le}
use Rattle.action_sums.proofs.sums.place_of.Goals as goal

pub total-requires : goal.total-requires
total-requires c = omega (arith, c.requires.few, sum_by-take-le (λ (n : ℕ). n) c.args.lengths.now c.args.entry)
