use Rattle.std.proofs.Common.{◌≡◌, take}
use Rattle.line_solvers.specs.RowsStep.{weighted_sum}
use Rattle.line_solvers.proofs.rows.weighted_sum.Given as goal

abbrev pub invariant-loop-pair : goal.invariant-loop-pair
invariant-loop-pair l = l.sum ≡ weighted_sum (take l.pair-index l.pairs) l.values
