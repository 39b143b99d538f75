use Rattle.cpl_plan.proofs.PlanNodesOnce.{some_node, one_node, only_participants, by_first, one_order}
use Rattle.cpl_plan.proofs.laws.each_participant_is_in_one_node.Goals as goal

pub returns-clause-some : goal.returns-clause-some
returns-clause-some c = λ plan part valid within. some_node plan valid part within

pub returns-clause-one : goal.returns-clause-one
returns-clause-one c = λ plan node other part valid inside too. one_node plan valid node other part inside too

pub returns-clause-only : goal.returns-clause-only
returns-clause-only c = λ plan node part valid inside. only_participants plan valid node part inside

pub returns-clause-first_members : goal.returns-clause-first_members
returns-clause-first_members c = λ plan node other valid has too same. by_first plan valid node other has too same

pub returns-clause-order : goal.returns-clause-order
returns-clause-order c = λ plan nodes valid order. one_order plan valid nodes order
