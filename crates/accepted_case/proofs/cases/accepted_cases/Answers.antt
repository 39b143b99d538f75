use Rattle.accepted_case.proofs.ReadCases.{are_read}
use Rattle.accepted_case.proofs.cases.accepted_cases.Goals as goal

pub returns-in-Ok-clause-read : goal.returns-in-Ok-clause-read
returns-in-Ok-clause-read c = are_read 0 c.args.files.now c.in_ok-cases.cases c.in_ok-cases.ensures.answer
