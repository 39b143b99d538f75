use Rattle.std.proofs.Common.{◌≡◌, Some, None, sym, ◌∙◌}
use Rattle.std.proofs.lemmas.Result.{IfOk-weaker}
use Rattle.io_edge.specs.FileMap.{FileMap}
use Rattle.coupling_run.specs.Answer.{outcome_of}
use Rattle.coupling_run.specs.Outcome.{loaded_outcome, config_outcome, first_case_name, second_case_name}
use Rattle.coupling_run.specs.declared.answer.Answer.{Answer}
use Rattle.coupling_run.proofs.Truncated.{accepted_from, may_ask-both}
use Rattle.coupling_run.proofs.solo.solo.Goals as goal

pub solo_cases-requires-clause-may_ask : goal.solo_cases-requires-clause-may_ask
solo_cases-requires-clause-may_ask g c =
    let both = may_ask-both (g.F.Files.told c.args.files.now) (g.F.Files.may_ask c.args.files.now) c.args.name.now c.as_slice.result.now c.in-Some.windows (λ files is. (let (file, file_is, bytes) = c.in_ok-config.ensures.loaded files is in (file, file_is, c.as_slice.ensures.value ∙ bytes))) (sym c.in_ok-windows.ensures.windows ∙ c.in-Some.is) c.requires in
    rw (c.in_ok-config.ensures.same_told, c.in_ok-config.ensures.same_names) both

pub returns-in-Some-clause-outcome : goal.returns-in-Some-clause-outcome
returns-in-Some-clause-outcome g c =
    let by_cases = λ (answer : Answer). (files : FileMap) → g.F.Files.told c.load_bytes.new.files ≡ Some files → outcome_of answer ≡ loaded_outcome c.in-Some.windows (files first_case_name) (files second_case_name) in
    let by_config = λ (answer : Answer). (files : FileMap) → g.F.Files.told c.args.files.now ≡ Some files → outcome_of answer ≡ config_outcome files (files c.args.name.now) in
    IfOk-weaker c.solo_cases.result by_cases by_config (λ answer from_cases files is. (let (config, config_is, config_bytes) = c.in_ok-config.ensures.loaded files is in
    from_cases files (c.in_ok-config.ensures.same_told ∙ is) ∙ accepted_from files c.args.name.now config c.as_slice.result.now (Some c.in-Some.windows) config_is (c.as_slice.ensures.value ∙ config_bytes) (sym c.in_ok-windows.ensures.windows ∙ c.in-Some.is))) c.solo_cases.ensures.outcome

pub returns-clause-outcome : goal.returns-clause-outcome
returns-clause-outcome g c = λ files is.
    let (config, config_is, config_bytes) = c.in_ok-config.ensures.loaded files is in
    c.in_ok-refusal-in-None.ensures.outcome ∙ accepted_from files c.args.name.now config c.as_slice.result.now None config_is (c.as_slice.ensures.value ∙ config_bytes) (sym c.in_ok-windows.ensures.windows ∙ c.in-None.is)
