use Rattle.cpl_plan.proofs.Readings.{each_at, each_from, passes_at, at_passes}
use Rattle.cpl_plan.proofs.laws.each_item_passes.Goals as goal

pub returns-clause-this : goal.returns-clause-this
returns-clause-this g c = λ items test n item all is. each_at test items all n item is

pub returns-clause-all : goal.returns-clause-all
returns-clause-all g c = λ items test each_one. each_from test items each_one

pub returns-clause-one : goal.returns-clause-one
returns-clause-one g c = λ items test n. (passes_at items n test, λ (item, is, holds). at_passes items n test item is holds)
