-- The outcome of a command line over the files: what it asks for decides. The project's own.
use Rattle.std.specs.Prelude.{ℕ, List, Option, Some, None}
use Rattle.io_edge.specs.FileMap.{FileMap}
use Rattle.accepted_case.specs.Acceptance.{files_acceptance}
use Rattle.coupling_run.specs.CheckText.{check_outcome}
use Rattle.coupling_run.specs.Outcome.{Outcome, usage, config_outcome}
use Rattle.coupling_run.specs.Words.{Asked, asked_of}
use Rattle.coupling_run.specs.declared.words.CommandWord.{CommandWord}
use Rattle.coupling_run.specs.declared.words.CommandWord.TheVariants.{Solo, Check}

abbrev pub word_outcome : CommandWord → FileMap → List ℕ → Outcome
word_outcome Solo files name = config_outcome files (files name)
word_outcome Check files name = check_outcome (files_acceptance files name)

abbrev pub asked_outcome : FileMap → Option Asked → Outcome
asked_outcome files None = usage
asked_outcome files (Some asked) = word_outcome asked.word files asked.name

-- the outcome of the words over the files
abbrev pub outcome : List (List ℕ) → FileMap → Outcome
outcome words files = asked_outcome files (asked_of words)
