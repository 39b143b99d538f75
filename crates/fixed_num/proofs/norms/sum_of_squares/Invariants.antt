use Rattle.std.proofs.Common.{◌≡◌, ◌≤◌, ◌*◌, ◌^◌, sum_by, take}
use Rattle.fixed_num.specs.Norm.{square}
use Rattle.fixed_num.proofs.norms.sum_of_squares.Given as goal

abbrev pub invariant-loop-x : goal.invariant-loop-x
invariant-loop-x g l = (l.sum ≡ sum_by (λ x. square (g.T.InUnits.units x)) (take l.x-index l.d)) × (l.sum ≤ l.x-index * (16 * 10 ^ 26))
