use Rattle.std.proofs.Common.{◌<◌, ◌≤◌, ◌-◌, length, take}
use Rattle.plan_order.specs.Edges.{alone}
use Rattle.plan_order.specs.Cycle.{HasCycle}
use Rattle.plan_order.proofs.order.placing.closing_edge.Given as goal

abbrev pub invariant-loop-open : goal.invariant-loop-open
invariant-loop-open l = record {
  apart : l.open < l.closed;
  in_range : l.closed ≤ length l.edges;
  first : ¬ HasCycle (alone l.ids) (take l.open l.edges);
  cycle : HasCycle (alone l.ids) (take l.closed l.edges);
}

abbrev pub decreases-loop-open : goal.decreases-loop-open
decreases-loop-open l = l.closed - l.open
