use Rattle.cpl_tables.specs.PlaceOrder.{way_to}
use Rattle.cpl_tables.proofs.PlaceOrders.{earlier-self, earlier-onward}
use Rattle.cpl_tables.proofs.laws.places_are_ordered.Goals as goal

pub returns-clause-apart : goal.returns-clause-apart
returns-clause-apart c = λ place h. earlier-self (way_to place) h

pub returns-clause-onward : goal.returns-clause-onward
returns-clause-onward c = λ first second third h k. earlier-onward (way_to first) (way_to second) (way_to third) h k
