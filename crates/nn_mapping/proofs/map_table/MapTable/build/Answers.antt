use Rattle.std.proofs.Common.{rules}
use Rattle.mesh_data.specs.AnyMeshes.{vertices_of}
use Rattle.nn_mapping.proofs.NearestVertices.{mapping_of-is}
use Rattle.nn_mapping.proofs.map_table.MapTable.build.Goals as goal

pub returns-clause-table : goal.returns-clause-table
returns-clause-table c = mapping_of-is (vertices_of c.args.from.now) (vertices_of c.args.to.now) c.args.conservative _ (search rules)
