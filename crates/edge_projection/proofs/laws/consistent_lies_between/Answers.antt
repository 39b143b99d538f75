use Rattle.edge_projection.proofs.FieldLaws.{component_of-between}
use Rattle.edge_projection.proofs.laws.consistent_lies_between.Goals as goal

pub returns : goal.returns
returns c = component_of-between
