-- A data item of a plan. From the coupling documentation's data, which are scalars or vectors.
use Rattle.std.specs.Prelude.{Bool, true, false, unsigned_abs}
use Rattle.cpl_config.specs.declared.kind_words.DataKind.{DataKind}
use Rattle.cpl_config.specs.declared.kind_words.DataKind.TheVariants.{Scalar, Vector}
use Rattle.cpl_config.specs.declared.config.DataTable.{DataTable}
use Rattle.cpl_plan.specs.declared.parts.DataPlan.{DataPlan}

abbrev pub is_vector : DataKind → Bool
is_vector Scalar = false
is_vector Vector = true

abbrev pub data_of : DataTable → DataPlan
data_of table = record { name = table.name; vector = is_vector table.kind; degree = unsigned_abs table.degree }
