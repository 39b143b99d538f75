-- The parts of a line of words, and the ways to write them. The project's own.
use Rattle.std.specs.Prelude.{Bool, false, ◌&&◌, ◌||◌, if◌then◌else◌, List, [], ◌∷◌, ◌++◌, Option, Some, None, option_copied, codes}
use Rattle.std.specs.Str.{bytes_eq}
use Rattle.command_words.specs.declared.forms.Line.{Line}
use Rattle.command_words.specs.Asking.{Request, Text, is_check, is_name, is_solo, look, run_of, schedule_of}

-- a command, the name behind it, and the text of the option where it is there
pub record Parts : Type 0 where
  pub command : Text
  pub config : Text
  pub schedule : Option Text

abbrev pub parts_of : Line → Parts
parts_of line = record {
  command = line.command.now;
  config = line.config.now;
  schedule = option_copied line.schedule;
}

-- `--schedule=` and the text, as one word
abbrev pub joined : Text → Text
joined text = codes "--schedule=" ++ text

abbrev pub is_joined : Text → Text → Bool
is_joined word text = bytes_eq word (joined text)

-- after the command, the name and the option in one word
abbrev pub writes_two : Text → Text → Text → Text → Bool
writes_two first second config text =
    (bytes_eq first config && is_joined second text) || (bytes_eq second config && is_joined first text)

-- after the command, the name and the option in two words
abbrev pub writes_three : Text → Text → Text → Text → Text → Bool
writes_three first second third config text =
    (bytes_eq first config && (bytes_eq second (codes "--schedule") && bytes_eq third text))
    || (bytes_eq third config && (bytes_eq first (codes "--schedule") && bytes_eq second text))

-- the words behind the command are a way to write the name and the option
abbrev pub writes_option : List Text → Text → Text → Bool
writes_option (first ∷ second ∷ []) config text = writes_two first second config text
writes_option (first ∷ second ∷ third ∷ []) config text = writes_three first second third config text
writes_option _ config text = false

-- the words are the name alone
abbrev pub writes_name : List Text → Text → Bool
writes_name (name ∷ []) config = bytes_eq name config
writes_name _ config = false

-- the words behind the command are a way to write the name, with the option where there is one
abbrev pub writes_rest : List Text → Text → Option Text → Bool
writes_rest words config None = writes_name words config
writes_rest words config (Some text) = writes_option words config text

-- the words are a way to write the line
abbrev pub writes : List Text → Parts → Bool
writes [] parts = false
writes (command ∷ rest) parts = bytes_eq command parts.command && writes_rest rest parts.config parts.schedule

abbrev pub solo_line : Text → Option Text → Option Request
solo_line config None = run_of config (Some 0)
solo_line config (Some text) = run_of config (schedule_of text)

abbrev pub check_line : Text → Option Text → Option Request
check_line config None = if is_name config then Some (look config) else None
check_line config (Some text) = None

-- what a line asks for
abbrev pub meant_by : Parts → Option Request
meant_by parts =
    if is_solo parts.command then solo_line parts.config parts.schedule
    else if is_check parts.command then check_line parts.config parts.schedule
    else None

-- what a line asks for that these words are a way to write
abbrev pub meant_in : List Text → Parts → Option Request
meant_in words parts = if writes words parts then meant_by parts else None
