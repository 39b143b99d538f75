use Rattle.std.specs.List.{AllWithin}
use Rattle.edge_projection.specs.NearestFoot.{IsEdgeOf}
use Rattle.edge_projection.proofs.feet_between.first_bad_edge.Given as goal

abbrev pub invariant-loop-i : goal.invariant-loop-i
invariant-loop-i l = AllWithin (IsEdgeOf l.vertices) l.edges 0 l.i
