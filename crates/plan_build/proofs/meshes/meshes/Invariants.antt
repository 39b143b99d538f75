use Rattle.std.proofs.Common.{◌≡◌, map, take}
use Rattle.plan_build.specs.MeshOf.{mesh_of}
use Rattle.plan_build.proofs.meshes.meshes.Given as goal

abbrev pub invariant-tables : goal.invariant-tables
invariant-tables l = l.meshes.items ≡ map (mesh_of l.config) (take l.table-index l.tables)
