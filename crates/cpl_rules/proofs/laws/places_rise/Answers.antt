use Rattle.cpl_rules.proofs.RisingPlaces.{rising_places}
use Rattle.cpl_rules.proofs.laws.places_rise.Goals as goal

pub returns : goal.returns
returns c = λ tree few. rising_places tree few
