-- How windows are made, and how many there are. From the coupling documentation's windows of one size and of the first participant's steps.
use Rattle.std.specs.Prelude.{ℕ, pos, unsigned_abs, unwrap_or}
use Rattle.cpl_config.specs.declared.kind_words.WindowWord.{WindowWord}
use Rattle.cpl_config.specs.declared.kind_words.WindowWord.TheVariants as W
use Rattle.cpl_config.specs.declared.config.Config.{Config}
use Rattle.cpl_plan.specs.declared.parts.WindowMethod.{WindowMethod}
use Rattle.cpl_plan.specs.declared.parts.WindowMethod.TheVariants.{Fixed, FirstParticipant}
use Rattle.cpl_plan.specs.Windows.{windows_to_reach}
use Rattle.config_laws.specs.FitNumbers.{end_ticks}

abbrev pub window_method : WindowWord → WindowMethod
window_method W.Fixed = Fixed
window_method W.FirstParticipant = FirstParticipant

abbrev pub window_size : Config → ℕ
window_size config = unsigned_abs config.window

-- of one size as few as reach the end; of the first participant's steps as many as the configuration says
abbrev pub windows_by : WindowWord → Config → ℕ
windows_by W.Fixed config = windows_to_reach (window_size config) (end_ticks config)
windows_by W.FirstParticipant config = unsigned_abs (unwrap_or config.max_windows (pos 0))

abbrev pub most_windows : Config → ℕ
most_windows config = windows_by config.window_method config
