use Rattle.std.proofs.Common.{◌≡◌, take}
use Rattle.case_rigs.proofs.points.listed.Given as goal

-- the points so far
abbrev pub invariant-points : goal.invariant-points
invariant-points g l = l.mesh ≡ take l.point-index l.points
