use Rattle.std.proofs.Common.{Option, Some, Result, Ok, Err, sym, ap, ◌∙◌, subst}
use Rattle.accepted_case.specs.Answers.{AnswersFiles}
use Rattle.accepted_case.specs.declared.parts.AcceptedCase.{AcceptedCase}
use Rattle.accepted_case.specs.declared.parts.RefusedCase.{RefusedCase}
use Rattle.accepted_case.proofs.Asks.{its_cases}
use Rattle.accepted_case.proofs.Cuts.{read_as}
use Rattle.accepted_case.proofs.load.load_case.Goals as goal

pub load_cases-requires-clause-may_load : goal.load_cases-requires-clause-may_load
load_cases-requires-clause-may_load g c =
    rw (c.in_ok-bytes.ensures.same_told, c.in_ok-bytes.ensures.same_names)
    (its_cases (g.F.Files.told c.args.files.now) (g.F.Files.may_ask c.args.files.now) c.args.name.now c.as_slice.result.now c.in-Ok.config
    (λ told is. (let (file, found, bytes) = c.in_ok-bytes.ensures.loaded told is in (file, found, c.as_slice.ensures.value ∙ bytes)))
    c.in-Ok.ensures.answer c.requires.may_load)

pub returns-in-Ok-clause-answer : goal.returns-in-Ok-clause-answer
returns-in-Ok-clause-answer g c = λ told is.
    let (file, found, bytes) = c.in_ok-bytes.ensures.loaded told is in
    let read = read_as told c.args.name.now file c.as_slice.result.now (Ok c.in-Ok.config) found (c.as_slice.ensures.value ∙ bytes) c.in-Ok.ensures.answer in
    subst (λ (found : Option (Result AcceptedCase RefusedCase)). AnswersFiles found c.load_cases.result) (sym read) (c.load_cases.ensures.answer told (c.in_ok-bytes.ensures.same_told ∙ is))

pub returns-in-Err-Refused-clause-answer : goal.returns-in-Err-Refused-clause-answer
returns-in-Err-Refused-clause-answer g c = λ told is.
    let (file, found, bytes) = c.in_ok-bytes.ensures.loaded told is in
    read_as told c.args.name.now file c.as_slice.result.now (Err c.in-Err-Refused.refusal) found (c.as_slice.ensures.value ∙ bytes) (rw c.in-Err-Refused.field-0-is at c.in-Err-Refused.ensures.answer)
    ∙ ap (λ refused. Some (Err refused)) (sym c.refused_config.ensures)
