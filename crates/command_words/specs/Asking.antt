-- What the words of a command line ask for. The project's own.
use Rattle.std.specs.Prelude.{ℕ, ◌^◌, Bool, not, ◌&&◌, ◌==◌, nat_lt, nat_le, if◌then◌else◌, List, [], ◌∷◌, length, take, drop, slice_get, false, Option, Some, None, option_map, codes}
use Rattle.std.specs.Option.{option_map_or, option_or}
use Rattle.std.specs.Str.{bytes_eq, all_ascii_digits}
use Rattle.std.specs.Str.Parse.{digits_value}
use Rattle.command_words.specs.declared.meaning.Asked.{Asked}
use Rattle.command_words.specs.declared.meaning.Asked.TheVariants as A

abbrev pub Text : Type 0
Text = List ℕ

-- a command with the name of a configuration, and the schedule where it runs
pub data Request : Type 0 where
  run : Text → ℕ → Request
  look : Text → Request

-- what a value of the code asks for
abbrev pub request_of : Asked → Request
request_of (A.Solo config schedule) = run config.now schedule
request_of (A.Check config) = look config.now

-- a name is a word that is not empty and does not begin with a dash
abbrev pub is_name : Text → Bool
is_name word = option_map_or (λ first. not (first == 45)) (slice_get word 0) false

abbrev pub is_solo : Text → Bool
is_solo word = bytes_eq word (codes "solo")

abbrev pub is_check : Text → Bool
is_check word = bytes_eq word (codes "check")

-- 1 to 20 digits of a number below 2^64
abbrev pub is_schedule : Text → Bool
is_schedule text = nat_lt 0 (length text) && (nat_le (length text) 20
    && (all_ascii_digits text && nat_lt (digits_value 10 text) (2 ^ 64)))

abbrev pub schedule_of : Text → Option ℕ
schedule_of text = if is_schedule text then Some (digits_value 10 text) else None

-- the option as two words: `--schedule` and a schedule
abbrev pub schedule_apart : Text → Text → Option ℕ
schedule_apart option text = if bytes_eq option (codes "--schedule") then schedule_of text else None

-- the option as one word: `--schedule=` with a schedule behind it
abbrev pub schedule_joined : Text → Option ℕ
schedule_joined word = if bytes_eq (take 11 word) (codes "--schedule=") then schedule_of (drop 11 word) else None

-- a run of this name under this schedule
abbrev pub run_of : Text → Option ℕ → Option Request
run_of config schedule = if is_name config then option_map (run config) schedule else None

-- a command and a name
abbrev pub of_name : Text → Text → Option Request
of_name command config =
    if is_solo command then run_of config (Some 0)
    else if is_check command && is_name config then Some (look config)
    else None

-- after `solo`, a name with the option in one word behind it or before it
abbrev pub of_two_words : Text → Text → Option Request
of_two_words first second =
    option_or (run_of first (schedule_joined second)) (run_of second (schedule_joined first))

-- after `solo`, a name with the option in two words behind it or before it
abbrev pub of_three_words : Text → Text → Text → Option Request
of_three_words first second third =
    option_or (run_of first (schedule_apart second third)) (run_of third (schedule_apart first second))

-- every other list of words asks for nothing
abbrev pub asked_of : List Text → Option Request
asked_of (command ∷ config ∷ []) = of_name command config
asked_of (command ∷ first ∷ second ∷ []) =
    if is_solo command then of_two_words first second else None
asked_of (command ∷ first ∷ second ∷ third ∷ []) =
    if is_solo command then of_three_words first second third else None
asked_of _ = None
