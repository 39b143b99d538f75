use Rattle.std.proofs.Common.{Some, Err, sym, ap, ◌∙◌}
use Rattle.accepted_case.proofs.Cuts.{accepted_as, refused_as}
use Rattle.accepted_case.proofs.load.load_cases.Goals as goal

pub returns-in-Ok-clause-answer : goal.returns-in-Ok-clause-answer
returns-in-Ok-clause-answer g c = λ told is.
    accepted_as told c.args.config c.as_slice.result.now c.in_ok-loaded.loaded c.as_slice-2.result.now c.in-Ok.cases c.as_slice.ensures (c.in_ok-loaded.ensures.loaded told is) c.as_slice-2.ensures c.in-Ok.ensures.answer

pub returns-in-Err-Refused-clause-answer : goal.returns-in-Err-Refused-clause-answer
returns-in-Err-Refused-clause-answer g c = λ told is.
    refused_as told c.args.config c.as_slice.result.now c.in_ok-loaded.loaded c.as_slice-2.result.now c.in-Err-Refused.refusal c.as_slice.ensures (c.in_ok-loaded.ensures.loaded told is) c.as_slice-2.ensures (rw c.in-Err-Refused.field-0-is at c.in-Err-Refused.ensures.answer)
    ∙ ap (λ refused. Some (Err refused)) (sym c.in_ok-refused_in-in-Err-Refused.ensures)
