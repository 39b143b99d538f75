-- A convergence measure in numbers. From the coupling documentation's convergence measures, each over one data item of its scheme.
use Rattle.std.specs.Prelude.{ℕ, ◌+◌, List, position, unwrap_or}
use Rattle.std.specs.Str.{bytes_eq}
use Rattle.cpl_config.specs.declared.kind_words.MeasureWord.{MeasureWord}
use Rattle.cpl_config.specs.declared.kind_words.MeasureWord.TheVariants.{Absolute, Relative, ResidualRelative}
use Rattle.cpl_config.specs.declared.config.SchemeTable.{SchemeTable}
use Rattle.cpl_config.specs.declared.config.MeasureEntry.{MeasureEntry}
use Rattle.cpl_plan.specs.declared.parts.Measure.{Measure}
use Rattle.cpl_plan.specs.declared.parts.MeasureKind.{MeasureKind}
use Rattle.cpl_plan.specs.declared.parts.MeasureKind.TheVariants as M

abbrev pub measure_kind : MeasureWord → MeasureKind
measure_kind Absolute = M.Absolute
measure_kind Relative = M.Relative
measure_kind ResidualRelative = M.ResidualRelative

-- the place in a scheme, from 0, of its first exchange that carries the data; 0 where none does
abbrev pub first_carrier : SchemeTable → List ℕ → ℕ
first_carrier table data_name = unwrap_or (position (λ entry. bytes_eq entry.data_name data_name) table.exchange) 0

-- what an entry says of a scheme, whose exchanges come after so many others
abbrev pub measure_of : (before : ℕ) → SchemeTable → MeasureEntry → Measure
measure_of before table entry = record {
  kind = measure_kind entry.kind;
  exchange = before + first_carrier table entry.data_name;
  limit = entry.limit;
  suffices = entry.suffices;
  strict = entry.strict;
}
