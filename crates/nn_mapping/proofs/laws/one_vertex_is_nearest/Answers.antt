use Rattle.nn_mapping.proofs.NearestVertices.{nearest_vertex-is, nearest_vertex-IsNearest}
use Rattle.nn_mapping.proofs.laws.one_vertex_is_nearest.Goals as goal

pub returns : goal.returns
returns c = record { found = nearest_vertex-IsNearest; only = nearest_vertex-is }
