use Rattle.edge_projection.proofs.NearestFeet.{nearest_foot-is}
use Rattle.edge_projection.proofs.feet.foot_of.Goals as goal

pub returns-clause-foot : goal.returns-clause-foot
returns-clause-foot g c = nearest_foot-is c.args.mesh.now c.args.edges.now c.args.p.now c.first_foot.result c.first_foot.ensures.nearest
