use Rattle.config_rules.specs.ConfigRules.{config_refusal, IsAccepted}
use Rattle.config_rules.proofs.RuleSteps.{accepted, refused}
use Rattle.config_rules.proofs.Answered.{on_ok, on_refused}
use Rattle.config_rules.proofs.check.check_config.Goals as goal

pub returns-clause-accepted : goal.returns-clause-accepted
returns-clause-accepted c =
    let config = c.args.config.now in
    on_ok (IsAccepted config) (config_refusal config) tt c.answer_of.result c.answer_of.ensures (accepted config)

pub returns-clause-first : goal.returns-clause-first
returns-clause-first c = λ refusal e.
    let config = c.args.config.now in
    refused config refusal (on_refused (config_refusal config) tt refusal (rw e at c.answer_of.ensures))
