use Rattle.std.proofs.Common.{◌≡◌, drop}
use Rattle.std.specs.List.{list_all}
use Rattle.mesh_rules.specs.Named.{is_among}
use Rattle.case_rules.proofs.case_meshes.are_among.Given as goal

-- the names of the rest are among these where those of all are
abbrev pub invariant-meshes : goal.invariant-meshes
invariant-meshes l = list_all (λ mesh. is_among mesh.name l.names) (drop l.mesh-index l.meshes) ≡ list_all (λ mesh. is_among mesh.name l.names) l.meshes
