use Rattle.cpl_plan.proofs.Readings.{among_in, in_among, apart_from, from_apart}
use Rattle.cpl_plan.proofs.laws.numbers_are_told_apart.Goals as goal

pub returns-clause-among : goal.returns-clause-among
returns-clause-among c = λ n ns. (among_in n ns, in_among n ns)

pub returns-clause-distinct : goal.returns-clause-distinct
returns-clause-distinct c = λ ns. (apart_from ns, from_apart ns)
