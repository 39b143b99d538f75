use Rattle.cpl_rules.specs.Seen.{seen_of}
use Rattle.cpl_rules.proofs.RuleSteps.{refusal-says}
use Rattle.cpl_rules.proofs.refusal.first_refusal.Goals as goal

pub returns-clause-refused : goal.returns-clause-refused
returns-clause-refused c = (refusal-says (seen_of c.args.top) c.in_ok-refusal.refusal c.in_ok-refusal.ensures).0

pub returns-clause-in_order : goal.returns-clause-in_order
returns-clause-in_order c = (refusal-says (seen_of c.args.top) c.in_ok-refusal.refusal c.in_ok-refusal.ensures).1
