use Rattle.std.proofs.Common.{◌∙◌}
use Rattle.coupling_run.specs.Outcome.{first_case_name, second_case_name}
use Rattle.coupling_run.proofs.Truncated.{cases_from}
use Rattle.coupling_run.proofs.solo.solo_cases.Goals as goal

pub returns-clause-outcome : goal.returns-clause-outcome
returns-clause-outcome g c = λ told is.
    let (first, first_is, first_bytes) = c.in_ok-first.ensures.loaded told is in
    let (second, second_is, second_bytes) = c.in_ok-second.ensures.loaded told (c.in_ok-first.ensures.same_told ∙ is) in
    c.in_ok-run_cases.ensures.outcome ∙ cases_from c.args.windows told first_case_name second_case_name first second c.as_slice.result.now c.as_slice-2.result.now first_is second_is (c.as_slice.ensures.value ∙ first_bytes) (c.as_slice-2.ensures.value ∙ second_bytes)
