use Rattle.std.proofs.Common.{◌≡◌, ◌++◌, take}
use Rattle.participant_tables.proofs.own_meshes.with_more.Given as goal

-- the points so far, after the mesh's own
abbrev pub invariant-loop-i : goal.invariant-loop-i
invariant-loop-i g l = l.longer ≡ l.mesh ++ take l.i l.points
