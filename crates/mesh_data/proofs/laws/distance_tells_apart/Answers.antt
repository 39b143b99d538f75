use Rattle.mesh_data.proofs.DistanceLaws.{square_distance-turned, square_distance-itself, square_distance-apart}
use Rattle.mesh_data.proofs.laws.distance_tells_apart.Goals as goal

pub returns : goal.returns
returns c = record { symmetric = square_distance-turned; itself = square_distance-itself; apart = square_distance-apart }
