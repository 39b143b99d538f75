use Rattle.edge_projection.proofs.FieldLaws.{total_of-conservative}
use Rattle.edge_projection.proofs.laws.conservative_keeps_totals.Goals as goal

pub returns : goal.returns
returns c = total_of-conservative
