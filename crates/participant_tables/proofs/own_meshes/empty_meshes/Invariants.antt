use Rattle.std.proofs.Common.{◌≡◌, map, take}
use Rattle.participant_tables.specs.Vertices.{opening_mesh}
use Rattle.participant_tables.proofs.own_meshes.empty_meshes.Given as goal

abbrev pub invariant-provided : goal.invariant-provided
invariant-provided l = l.meshes.items ≡ map (opening_mesh l.plan) (take l.mesh-index l.provides)
