use Rattle.std.proofs.Common.{arith}
use Rattle.case_rules.proofs.StepCounts.{a_step}
use Rattle.case_rules.proofs.cases.takes_too_many_steps.Goals as goal

pub needs_more_steps-requires : goal.needs_more_steps-requires
needs_more_steps-requires c = omega (arith, c.ticks_of.ensures, a_step c.args.case_file.now c.requires)
