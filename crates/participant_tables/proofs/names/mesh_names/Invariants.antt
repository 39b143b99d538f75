use Rattle.std.proofs.Common.{◌≡◌, map, take}
use Rattle.participant_tables.specs.Named.{mesh_name}
use Rattle.participant_tables.proofs.names.mesh_names.Given as goal

abbrev pub invariant-meshes : goal.invariant-meshes
invariant-meshes l = l.names ≡ map (mesh_name l.plan) (take l.mesh-index l.provides)
