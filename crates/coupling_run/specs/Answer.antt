-- How a status and what a sink has taken answer an outcome, and which files may be asked for it. The project's own.
use Rattle.std.specs.Prelude.{◌≡◌, ℕ, List, Bool, IsTrue, IsSome, Option, Some, None, option_map, option_and_then}
use Rattle.io_edge.specs.FileMap.{FileMap}
use Rattle.io_edge.specs.Taken.{taken_more, TookPrefix}
use Rattle.accepted_case.specs.Acceptance.{config_acceptance}
use Rattle.accepted_case.specs.MayLoad.{MayAskAll, MayLoadCases}
use Rattle.coupling_run.specs.Form.{windows_of}
use Rattle.coupling_run.specs.Outcome.{Outcome, usage, first_case_name, second_case_name}
use Rattle.coupling_run.specs.Words.{Asked}
use Rattle.coupling_run.specs.declared.answer.Answer.{Answer}
use Rattle.coupling_run.specs.declared.words.CommandWord.{CommandWord}
use Rattle.coupling_run.specs.declared.words.CommandWord.TheVariants.{Solo, Check}
use Rattle.coupling_run.specs.declared.status.Status.{Status}
use Rattle.coupling_run.specs.declared.status.Status.TheVariants.{Ok, Usage, ReadFault, Refused, RunFault, WriteFault, Memory}

-- the outcome that an answer is
abbrev pub outcome_of : Answer → Outcome
outcome_of answer = record { status = answer.status; text = answer.text.items }

-- the status is the outcome's, and its text was taken
abbrev pub Tells : Outcome → Status → Option (List ℕ) → Option (List ℕ) → Type 0
Tells expected status old new = (status ≡ expected.status) × (new ≡ taken_more old expected.text)

-- the status and the bytes taken are the outcome's; or a load failed or memory was wanting, and nothing was taken; or
-- a put failed, and a prefix of the text was taken
abbrev pub Answers : Outcome → Status → Option (List ℕ) → Option (List ℕ) → Type 0
Answers expected Ok old new = Tells expected Ok old new
Answers expected Usage old new = Tells expected Usage old new
Answers expected ReadFault old new = new ≡ old
Answers expected Refused old new = Tells expected Refused old new
Answers expected RunFault old new = Tells expected RunFault old new
Answers expected WriteFault old new = TookPrefix old new expected.text
Answers expected Memory old new = new ≡ old

-- for a run, the case files' names may be asked once the configuration is accepted, the second's once the first is there
abbrev pub MayAskCases : FileMap → (List ℕ → Bool) → Option ℕ → Type 0
MayAskCases files may_ask None = Unit {0}
MayAskCases files may_ask (Some windows) =
    IsTrue (may_ask first_case_name) × (IsSome (files first_case_name) → IsTrue (may_ask second_case_name))

abbrev pub MayAskWord : CommandWord → FileMap → (List ℕ → Bool) → List ℕ → Type 0
MayAskWord Solo files may_ask name = MayAskCases files may_ask (option_and_then windows_of (files name))
MayAskWord Check files may_ask name = MayLoadCases files may_ask (option_map config_acceptance (files name))

-- the configuration's name may be asked, and then those of the case files
abbrev pub MayAskNames : FileMap → (List ℕ → Bool) → Option Asked → Type 0
MayAskNames files may_ask None = Unit {0}
MayAskNames files may_ask (Some asked) = IsTrue (may_ask asked.name) × MayAskWord asked.word files may_ask asked.name

-- the names that the outcome reaches may be asked; where no content is known, every name may
abbrev pub MayAsk : Option FileMap → (List ℕ → Bool) → Option Asked → Type 0
MayAsk None may_ask asked = MayAskAll may_ask
MayAsk (Some files) may_ask asked = MayAskNames files may_ask asked

-- the same of the case files, once a configuration of so many windows is accepted
abbrev pub MayAskBoth : Option FileMap → (List ℕ → Bool) → ℕ → Type 0
MayAskBoth None may_ask windows = MayAskAll may_ask
MayAskBoth (Some files) may_ask windows = MayAskCases files may_ask (Some windows)

-- a configuration that is loaded is answered by its report, a fault or a refusal
abbrev pub IsServed : Status → Type 0
IsServed Ok = Unit {0}
IsServed Usage = ⊥
IsServed ReadFault = ⊥
IsServed Refused = Unit {0}
IsServed RunFault = Unit {0}
IsServed WriteFault = ⊥
IsServed Memory = ⊥

-- what is known of an answer whatever the files tell
abbrev pub IsAnswerTo : Option Asked → Answer → Type 0
IsAnswerTo None answer = outcome_of answer ≡ usage
IsAnswerTo (Some asked) answer = IsServed answer.status
