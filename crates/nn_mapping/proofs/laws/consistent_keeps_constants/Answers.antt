use Rattle.nn_mapping.proofs.MapLaws.{component_of-constant}
use Rattle.nn_mapping.proofs.laws.consistent_keeps_constants.Goals as goal

pub returns : goal.returns
returns c = component_of-constant
