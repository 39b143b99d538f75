use Rattle.std.proofs.Common.{◌≡◌, All, length, map, take}
use Rattle.edge_projection.specs.NearestFoot.{IsFootIn, nearest_foot}
use Rattle.edge_projection.proofs.feet_between.feet_of.Given as goal

abbrev pub invariant-loop-v : goal.invariant-loop-v
invariant-loop-v g l = record {
  feet : l.feet.items ≡ map (nearest_foot l.mesh l.edges) (take l.v l.points);
  inside : All (IsFootIn (length l.mesh)) l.feet.items;
}
