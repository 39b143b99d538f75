use Rattle.std.proofs.Common.{◌≡◌, drop}
use Rattle.data_actions.specs.Fit.{fit}
use Rattle.data_actions.proofs.sums.all_fit.Given as goal

abbrev pub invariant-loop-sum : goal.invariant-loop-sum
invariant-loop-sum l = fit (drop l.sum-index l.sums) l.values ≡ fit l.sums l.values
