use Rattle.std.proofs.Common.{◌∙◌}
use Rattle.case_rules.proofs.StepCounts.{more_steps}
use Rattle.case_rules.proofs.cases.needs_more_steps.Goals as goal

pub returns : goal.returns
returns c = c.end_before.ensures ∙ more_steps 1024 c.args.window c.args.step c.requires
