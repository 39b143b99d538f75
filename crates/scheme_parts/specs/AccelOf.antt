-- An acceleration in numbers. From the coupling documentation's constant and Aitken relaxation, each over some data of its scheme.
use Rattle.std.specs.Prelude.{ℕ, List, map, filter, Option, Some, None}
use Rattle.std.specs.List.{enumerate_from}
use Rattle.cpl_config.specs.declared.kind_words.AccelWord.{AccelWord}
use Rattle.cpl_config.specs.declared.kind_words.AccelWord.TheVariants as A
use Rattle.cpl_config.specs.declared.config.SchemeTable.{SchemeTable}
use Rattle.cpl_config.specs.declared.config.AccelEntry.{AccelEntry}
use Rattle.cpl_plan.specs.declared.parts.Accel.{Accel}
use Rattle.cpl_plan.specs.declared.parts.Accel.TheVariants.{None as NoAccel, Constant, Aitken}
use Rattle.config_rules.specs.SchemeRules.{is_accelerated}

-- the numbers, rising, of the scheme's exchanges that are accelerated, where they come after so many others
abbrev pub accelerated : (before : ℕ) → SchemeTable → AccelEntry → List ℕ
accelerated before table entry = map (λ numbered. numbered.0) (filter (λ numbered. is_accelerated table entry numbered.1) (enumerate_from before table.exchange))

-- by the word of the entry
abbrev pub accel_by : AccelWord → (before : ℕ) → SchemeTable → AccelEntry → Accel
accel_by A.Constant before table entry = Constant entry.factor (accelerated before table entry)
accel_by A.Aitken before table entry = Aitken entry.factor (accelerated before table entry)

-- what the entry of a scheme says, where there is one
abbrev pub accel_of : (before : ℕ) → SchemeTable → Option AccelEntry → Accel
accel_of before table (Some entry) = accel_by entry.kind before table entry
accel_of before table None = NoAccel
