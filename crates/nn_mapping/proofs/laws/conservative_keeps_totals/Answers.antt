use Rattle.nn_mapping.proofs.MapLaws.{total_of-conservative}
use Rattle.nn_mapping.proofs.laws.conservative_keeps_totals.Goals as goal

pub returns : goal.returns
returns c = total_of-conservative
