use Rattle.std.proofs.Common.{◌^◌, ◌-◌, ◌≤◌}
use Rattle.edge_projection.proofs.weights.step_up.Given as goal

abbrev pub invariant-loop-weight : goal.invariant-loop-weight
invariant-loop-weight l = l.weight ≤ 10 ^ 6

abbrev pub decreases-loop-weight : goal.decreases-loop-weight
decreases-loop-weight l = 10 ^ 6 - l.weight
