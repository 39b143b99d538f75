use Rattle.case_rules.specs.CaseRules.{case_refusal, AreAccepted}
use Rattle.case_rules.proofs.CaseSteps.{accepted, refused}
use Rattle.config_rules.proofs.Answered.{on_ok, on_refused}
use Rattle.case_rules.proofs.case_check.check_cases.Goals as goal

pub returns-clause-accepted : goal.returns-clause-accepted
returns-clause-accepted c =
    let config = c.args.config.now in
    let cases = c.args.cases.now in
    on_ok (AreAccepted config cases) (case_refusal config cases) tt c.answer_of.result c.answer_of.ensures (accepted config cases)

pub returns-clause-first : goal.returns-clause-first
returns-clause-first c = λ refusal e.
    let config = c.args.config.now in
    let cases = c.args.cases.now in
    refused config cases refusal (on_refused (case_refusal config cases) tt refusal (rw e at c.answer_of.ensures))
