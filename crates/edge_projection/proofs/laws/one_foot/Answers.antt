use Rattle.edge_projection.proofs.NearestFeet.{nearest_foot-is}
use Rattle.edge_projection.proofs.laws.one_foot.Goals as goal

pub returns : goal.returns
returns c = nearest_foot-is
