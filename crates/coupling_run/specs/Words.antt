-- What the words of the command line ask for. The project's own.
use Rattle.std.specs.Prelude.{ℕ, Bool, not, ◌&&◌, ◌==◌, nat_lt, if◌then◌else◌, List, [], ◌∷◌, length, slice_index, Option, Some, None, option_map, codes}
use Rattle.std.specs.Str.{bytes_eq}
use Rattle.coupling_run.specs.declared.words.Command.{Command}
use Rattle.coupling_run.specs.declared.words.CommandWord.{CommandWord}
use Rattle.coupling_run.specs.declared.words.CommandWord.TheVariants.{Solo, Check}

-- a command, and the name of a configuration
pub record Asked : Type 0 where
  pub word : CommandWord
  pub name : List ℕ

-- what a command of the code asks for
abbrev pub asked_by : Command → Asked
asked_by command = record { word = command.word; name = command.name.now }

abbrev pub command_word : List ℕ → Option CommandWord
command_word word =
    if bytes_eq word (codes "solo") then Some Solo
    else if bytes_eq word (codes "check") then Some Check
    else None

-- a name is a word that is not empty and does not begin with a dash
abbrev pub is_name : List ℕ → Bool
is_name word = nat_lt 0 (length word) && not (slice_index word 0 == 45)

-- of two words, a command that is served, and a name
abbrev pub asked_with : List ℕ → List ℕ → Option Asked
asked_with word name = if is_name name then option_map (λ command. record { word = command; name = name }) (command_word word) else None

-- every other list of words asks for nothing that is served
abbrev pub asked_of : List (List ℕ) → Option Asked
asked_of (word ∷ name ∷ []) = asked_with word name
asked_of _ = None
