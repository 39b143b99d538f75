use Rattle.std.proofs.Common.{sym, subst}
use Rattle.cpl_plan.specs.ValidPlan.{IsValidPlan}
use Rattle.core_tests.proofs.plans.trio.strict_trio.Goals as goal

pub from_parts-requires : goal.from_parts-requires
from_parts-requires c = subst IsValidPlan (sym c.in_ok-parts_of_trio.ensures) c.trios_are_valid.ensures.strict
