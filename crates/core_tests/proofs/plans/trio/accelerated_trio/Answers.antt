use Rattle.std.proofs.Common.{sym, ap, subst, ◌∙◌}
use Rattle.std.specs.Prelude.{false}
use Rattle.cpl_plan.specs.ValidPlan.{IsValidPlan}
use Rattle.cpl_plan.specs.declared.parts.Accel.{Accel}
use Rattle.core_tests.specs.Trios.{trio}
use Rattle.core_tests.proofs.plans.trio.accelerated_trio.Goals as goal

pub from_parts-requires : goal.from_parts-requires
from_parts-requires c =
    subst IsValidPlan (sym (c.in_ok-parts_of_trio.ensures ∙ ap (λ (accel : Accel). trio false accel) c.in_ok-halved_from.ensures))
    c.trios_are_valid.ensures.accelerated
