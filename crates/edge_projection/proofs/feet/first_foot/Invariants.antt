use Rattle.std.proofs.Common.{length}
use Rattle.edge_projection.specs.NearestFoot.{IsFootAmong, IsFootIn}
use Rattle.edge_projection.proofs.feet.first_foot.Given as goal

-- the foot among the candidates before this number
abbrev pub invariant-loop-number : goal.invariant-loop-number
invariant-loop-number g l = record {
  among : IsFootAmong l.number l.mesh l.edges l.p l.best;
  inside : IsFootIn (length l.mesh) l.best;
}
