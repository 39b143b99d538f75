use Rattle.std.proofs.Common.{subst}
use Rattle.cpl_plan.specs.ValidPlan.{IsValidPlan}
use Rattle.cpl_plan.proofs.plan.Plan.parts.Goals as goal

pub returns-clause-valid : goal.returns-clause-valid
returns-clause-valid c = subst IsValidPlan c.self.view_is c.self.invariant
