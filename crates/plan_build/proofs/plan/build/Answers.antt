use Rattle.std.proofs.Common.{sym, subst}
use Rattle.plan_build.specs.PlanOf.{IsPlanOf}
use Rattle.plan_build.proofs.Valid.{valid_plan}
use Rattle.plan_build.proofs.plan.build.Goals as goal

pub from_parts-requires : goal.from_parts-requires
from_parts-requires c = valid_plan c.args.config.now c.in_ok-parts.parts c.requires.sound c.requires.accepted c.in_ok-parts.ensures

pub returns : goal.returns
returns c = subst (IsPlanOf c.args.config.now) (sym c.from_parts.ensures) c.in_ok-parts.ensures
