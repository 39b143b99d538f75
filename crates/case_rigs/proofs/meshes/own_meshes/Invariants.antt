use Rattle.std.proofs.Common.{◌≡◌, map, take}
use Rattle.case_rigs.specs.CaseMeshes.{own_mesh}
use Rattle.case_rigs.proofs.meshes.own_meshes.Given as goal

-- the meshes so far
abbrev pub invariant-names : goal.invariant-names
invariant-names l = l.meshes.items ≡ map (own_mesh l.config l.case_file) (take l.name-index l.name-items)
