use Rattle.std.proofs.Common.{refl}
use Rattle.config_rules.specs.ConfigRules.{config_refusal}
use Rattle.cpl_config.specs.Acceptance.{acceptance}
use Rattle.accepted_case.specs.Acceptance.{as_a_whole}
use Rattle.accepted_case.proofs.Wholes.{checked_err, checked_ok}
use Rattle.accepted_case.proofs.load.accepted_config.Goals as goal

pub returns-in-Ok-clause-answer : goal.returns-in-Ok-clause-answer
returns-in-Ok-clause-answer c =
    let config = c.in_ok-config.config in
    checked_ok as_a_whole (acceptance c.args.bytes.now) config (config_refusal config) tt tt c.in_ok-config.ensures.answer refl c.in-Ok.ensures.answer

pub returns-in-Err-clause-answer : goal.returns-in-Err-clause-answer
returns-in-Err-clause-answer c =
    let config = c.in_ok-config.config in
    checked_err as_a_whole (acceptance c.args.bytes.now) config (config_refusal config) tt c.in-Err.error c.in_ok-config.ensures.answer refl c.in-Err.ensures.answer

pub returns-in-Ok-clause-read : goal.returns-in-Ok-clause-read
returns-in-Ok-clause-read c = record { bytes = c.args.bytes.now; read = c.in_ok-config.ensures.answer; unbroken = c.in_ok-config.ensures.unbroken }
