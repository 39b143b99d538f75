-- The rule on schemes where the steps of the first participant are the windows. The project's own, after the coupling documentation's windows of the first participant's size.
use Rattle.std.specs.Prelude.{Bool, true, false, not, ◌&&◌, ◌||◌, ◌==◌, length}
use Rattle.std.specs.List.{list_any}
use Rattle.std.specs.Option.{option_map_or}
use Rattle.std.specs.Str.{bytes_eq}
use Rattle.cpl_config.specs.declared.kind_words.KindWord.{KindWord}
use Rattle.cpl_config.specs.declared.kind_words.KindWord.TheVariants.{SerialExplicit}
use Rattle.cpl_config.specs.declared.kind_words.WindowWord.{WindowWord}
use Rattle.cpl_config.specs.declared.kind_words.WindowWord.TheVariants.{Fixed, FirstParticipant}
use Rattle.cpl_config.specs.declared.config.Config.{Config}
use Rattle.cpl_config.specs.declared.config.SchemeTable.{SchemeTable}
use Rattle.cpl_config.specs.declared.config.ExchangeEntry.{ExchangeEntry}
use Rattle.mesh_rules.specs.Entries.{Held, scheme}
use Rattle.config_rules.specs.Members.{goes_to_second}
use Rattle.config_rules.specs.Circles.{is_empty}

-- the first participant's steps are the windows
abbrev pub is_first_participant : WindowWord → Bool
is_first_participant Fixed = false
is_first_participant FirstParticipant = true

abbrev pub is_serial_explicit : KindWord → Bool
is_serial_explicit SerialExplicit = true
is_serial_explicit _ = false

-- an exchange of a scheme goes from its first to its second
abbrev pub goes_forward : SchemeTable → ExchangeEntry → Bool
goes_forward table entry = option_map_or (bytes_eq entry.from) table.first false && goes_to_second table entry

-- the scheme is the only one, and no exchange of it goes from its first to its second
abbrev pub goes_nowhere : Config → SchemeTable → Bool
goes_nowhere config table = length config.scheme == 1 && not (list_any (goes_forward table) table.exchange)

-- where the first participant's steps are the windows: the scheme is not the first, is not serial-explicit, or is the only one and has no exchange from its first to its second
abbrev pub has_wrong_windows : Config → Held → Bool
has_wrong_windows config (scheme earlier table) =
    is_first_participant config.window_method && (not (is_empty earlier) || (not (is_serial_explicit table.kind) || goes_nowhere config table))
has_wrong_windows config _ = false
