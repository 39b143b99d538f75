use Rattle.std.proofs.Common.{sym, subst}
use Rattle.cpl_plan.specs.ValidPlan.{IsValidPlan}
use Rattle.plan_tests.proofs.plans.example_plan.two_participants.Goals as goal

pub from_parts-requires : goal.from_parts-requires
from_parts-requires c = subst IsValidPlan (sym c.in_ok-parts_of_two.ensures) c.two_participants_are_valid.ensures
