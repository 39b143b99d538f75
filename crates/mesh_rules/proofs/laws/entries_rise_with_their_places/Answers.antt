use Rattle.mesh_rules.proofs.RisingPlaces.{rising}
use Rattle.mesh_rules.proofs.laws.entries_rise_with_their_places.Goals as goal

pub returns : goal.returns
returns c = rising
