use Rattle.std.proofs.Common.{◌^◌, ◌+◌, ◌<◌, ◌≤◌}
use Rattle.edge_projection.specs.Offsets.{square_off}
use Rattle.edge_projection.proofs.weights.step_down.Given as goal

-- the next weight is no nearer
abbrev pub invariant-loop-weight : goal.invariant-loop-weight
invariant-loop-weight l = record {
  weight : l.weight ≤ 10 ^ 6;
  no_nearer : l.weight < 10 ^ 6 → square_off l.weight l.p l.a l.b ≤ square_off (l.weight + 1) l.p l.a l.b;
}

abbrev pub decreases-loop-weight : goal.decreases-loop-weight
decreases-loop-weight l = l.weight
