-- The numbers of an accepted configuration. The project's own, after what the coupling documentation asks of a configuration.
use Rattle.std.specs.Prelude.{◌≡◌, ℕ, ◌*◌, ◌^◌, ◌≤◌, IsTrue, Some, unwrap_or, All, ℤ, pos, unsigned_abs}
use Rattle.std.specs.Option.{option_map_or}
use Rattle.cpl_plan.specs.ValidPlan.{IsCount}
use Rattle.cpl_config.specs.declared.kind_words.WindowWord.{WindowWord}
use Rattle.cpl_config.specs.declared.kind_words.WindowWord.TheVariants.{Fixed, FirstParticipant}
use Rattle.cpl_config.specs.declared.config.Config.{Config}
use Rattle.cpl_config.specs.declared.config.SchemeTable.{SchemeTable}
use Rattle.config_rules.specs.Members.{is_implicit}

-- the end in ticks, which windows of the first participant's steps may not reach: as it is told, or after so many windows
abbrev pub end_ticks : Config → ℕ
end_ticks config =
    option_map_or (λ time. unsigned_abs time)
    config.max_time (option_map_or (λ windows. unsigned_abs windows * unsigned_abs config.window) config.max_windows 0)

-- there is a number of windows, of a million at most
pub record HasMostWindows (config : Config) : Type 0 where
  pub windows : ℤ
  pub told : config.max_windows ≡ Some windows
  pub few : IsCount (10 ^ 6) (unsigned_abs windows)

-- no more than a million windows: of one length before the end, or of the first participant's steps
abbrev pub HasFewWindows : Config → WindowWord → Type 0
HasFewWindows config Fixed = end_ticks config ≤ 10 ^ 6 * unsigned_abs config.window
HasFewWindows config FirstParticipant = HasMostWindows config

-- there is some time, and there are no more than a million windows
pub record HasTime (config : Config) : Type 0 where
  pub window : IsCount (10 ^ 9) (unsigned_abs config.window)
  pub end : IsCount (10 ^ 15) (end_ticks config)
  pub windows : HasFewWindows config config.window_method

-- the least number of iterations, 1 where it is left out
abbrev pub least_iterations : SchemeTable → ℕ
least_iterations table = unsigned_abs (unwrap_or table.min_iterations (pos 1))

-- from one iteration to a thousand, the least number not over the greatest
pub record HasFewIterations (table : SchemeTable) : Type 0 where
  pub greatest : ℤ
  pub told : table.max_iterations ≡ Some greatest
  pub one : 1 ≤ least_iterations table
  pub in_order : least_iterations table ≤ unsigned_abs greatest
  pub few : unsigned_abs greatest ≤ 10 ^ 3

abbrev pub FewIterations : Config → Type 0
FewIterations config = All (λ table. IsTrue (is_implicit table) → HasFewIterations table) config.scheme
