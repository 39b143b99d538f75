-- What is read from the words by the command. The project's own.
use Rattle.std.specs.Prelude.{◌≡◌, ◌≢◌, true, List, Option, Some, None, option_map, codes}
use Rattle.std.specs.Option.{option_and_then}
use Rattle.clap.specs.Words.{App, Row, Rule, first_of, new_app, new_rule, with_rule, with_subcommand}
use Rattle.clap.specs.Simple.{on_top}
use Rattle.command_words.specs.Asking.{Text}
use Rattle.command_words.specs.Lines.{Parts, meant_by, writes}

-- the parts that the entries of a subcommand hold
abbrev pub parts_in : Text → List Row → Option Parts
parts_in command rows = option_map (λ config. record {
  command = command;
  config = config;
  schedule = first_of (codes "schedule") rows;
}) (first_of (codes "config") rows)

abbrev pub parts_met : Option (Text × List Row) → Option Parts
parts_met met = option_and_then (λ m. parts_in m.0 m.1) met

-- the line that was read is the one that the words write, where they write one that asks for something
abbrev pub ReadsFrom : List Text → Option Parts → Type 0
ReadsFrom words read = (parts : Parts) → writes words parts ≡ true → meant_by parts ≢ None → read ≡ Some parts

abbrev pub config_rule : Rule
config_rule = record (new_rule (codes "config")) { required = true }

abbrev pub schedule_rule : Rule
schedule_rule = record (new_rule (codes "schedule")) { long = Some (codes "schedule") }

-- a command with a name behind it
abbrev pub named_app : Text → App
named_app name = with_rule (new_app name) config_rule

abbrev pub without_help : App → App
without_help = on_top (λ s. record s {
  no_binary_name = true;
  disable_help_flag = true;
  disable_help_subcommand = true;
})

-- the whole command
abbrev pub words_app : App
words_app = with_subcommand
    (with_subcommand (without_help (new_app (codes "coupling"))) (named_app (codes "check")).top)
    (with_rule (named_app (codes "solo")) schedule_rule).top
