use Rattle.std.proofs.Common.{sym, subst}
use Rattle.cpl_plan.specs.ValidPlan.{IsValidPlan}
use Rattle.cpl_plan.proofs.plan.Plan.copy.Goals as goal

pub invariant_of-result : goal.invariant_of-result
invariant_of-result c = subst IsValidPlan (sym c.in_ok-copy_in.ensures) c.self.invariant
