-- Which files may be asked for, where every name may be.
use Rattle.std.proofs.Common.{ℕ, Bool, List, Option, Some, None, option_map}
use Rattle.std.specs.Option.{option_and_then}
use Rattle.io_edge.specs.FileMap.{FileMap}
use Rattle.accepted_case.specs.Acceptance.{config_acceptance}
use Rattle.accepted_case.specs.MayLoad.{MayAskAll}
use Rattle.accepted_case.proofs.Asks.{all_cases}
use Rattle.coupling_run.specs.Answer.{MayAskCases, MayAskWord, MayAskNames}
use Rattle.coupling_run.specs.Form.{windows_of}
use Rattle.coupling_run.specs.Outcome.{first_case_name, second_case_name}
use Rattle.coupling_run.specs.Words.{Asked}
use Rattle.coupling_run.specs.declared.words.CommandWord.{CommandWord}
use Rattle.coupling_run.specs.declared.words.CommandWord.TheVariants.{Solo, Check}

all_of_a_run : (files : FileMap) (may_ask : List ℕ → Bool) (windows : Option ℕ) → MayAskAll may_ask → MayAskCases files may_ask windows
all_of_a_run files may_ask None all = tt
all_of_a_run files may_ask (Some windows) all = (all first_case_name, λ there. all second_case_name)

all_of_a_word : (word : CommandWord) (files : FileMap) (may_ask : List ℕ → Bool) (name : List ℕ) → MayAskAll may_ask → MayAskWord word files may_ask name
all_of_a_word Solo files may_ask name all = all_of_a_run files may_ask (option_and_then windows_of (files name)) all
all_of_a_word Check files may_ask name all = all_cases files may_ask (option_map config_acceptance (files name)) all

pub all_names : (files : FileMap) (may_ask : List ℕ → Bool) (asked : Option Asked) → MayAskAll may_ask → MayAskNames files may_ask asked
all_names files may_ask None all = tt
all_names files may_ask (Some asked) all = (all asked.name, all_of_a_word asked.word files may_ask asked.name all)
