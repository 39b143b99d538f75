-- The schemes of a plan, written as tables of a configuration. The project's own.
use Rattle.std.specs.Prelude.{ℕ, nat_eq, if◌then◌else◌, List, map, filter, ℤ, pos, slice_get, Option, Some, None}
use Rattle.cpl_plan.specs.declared.parts.PlanParts.{PlanParts}
use Rattle.cpl_plan.specs.declared.parts.Exchange.{Exchange}
use Rattle.cpl_plan.specs.declared.parts.Scheme.{Scheme}
use Rattle.cpl_plan.specs.declared.parts.SchemeKind.{SchemeKind}
use Rattle.cpl_plan.specs.declared.parts.SchemeKind.TheVariants as S
use Rattle.cpl_plan.specs.declared.parts.Measure.{Measure}
use Rattle.cpl_plan.specs.declared.parts.MeasureKind.{MeasureKind}
use Rattle.cpl_plan.specs.declared.parts.MeasureKind.TheVariants as M
use Rattle.cpl_plan.specs.declared.parts.Accel.{Accel}
use Rattle.cpl_plan.specs.declared.parts.Accel.TheVariants as A
use Rattle.cpl_plan.specs.ExchangeKinds.{is_implicit}
use Rattle.cpl_plan.specs.PlanWords.{is_among, numbers}
use Rattle.cpl_plan.specs.PlanTests.{data_carried}
use Rattle.cpl_config.specs.declared.kind_words.KindWord.{KindWord}
use Rattle.cpl_config.specs.declared.kind_words.KindWord.TheVariants as K
use Rattle.cpl_config.specs.declared.kind_words.MeasureWord.{MeasureWord}
use Rattle.cpl_config.specs.declared.kind_words.MeasureWord.TheVariants as W
use Rattle.cpl_config.specs.declared.kind_words.AccelWord.TheVariants.{Constant, Aitken}
use Rattle.cpl_config.specs.declared.config.SchemeTable.{SchemeTable}
use Rattle.cpl_config.specs.declared.config.ExchangeEntry.{ExchangeEntry}
use Rattle.cpl_config.specs.declared.config.MeasureEntry.{MeasureEntry}
use Rattle.cpl_config.specs.declared.config.AccelEntry.{AccelEntry}
use Rattle.plan_laws.specs.PlanNames.{part_name, mesh_name, data_name, carried_name}

abbrev pub kind_word : SchemeKind → KindWord
kind_word S.SerialExplicit = K.SerialExplicit
kind_word S.ParallelExplicit = K.ParallelExplicit
kind_word S.SerialImplicit = K.SerialImplicit
kind_word S.ParallelImplicit = K.ParallelImplicit
kind_word S.Multi = K.Multi

abbrev pub measure_word : MeasureKind → MeasureWord
measure_word M.Absolute = W.Absolute
measure_word M.Relative = W.Relative
measure_word M.ResidualRelative = W.ResidualRelative

-- the member of a scheme of two that stands at a place
abbrev pub one_of_two : SchemeKind → (place : ℕ) → List (List ℕ) → Option (List ℕ)
one_of_two S.Multi place names = None
one_of_two _ place names = slice_get names place

-- the members of a multi scheme, of which the one that stands first is the control
abbrev pub all_of_many : SchemeKind → List (List ℕ) → Option (List (List ℕ))
all_of_many S.Multi names = Some names
all_of_many _ names = None

abbrev pub first_of_many : SchemeKind → List (List ℕ) → Option (List ℕ)
first_of_many S.Multi names = slice_get names 0
first_of_many _ names = None

-- a number of iterations, of a scheme that repeats windows
abbrev pub iterations : SchemeKind → ℕ → Option ℤ
iterations kind n = if is_implicit kind then Some (pos n) else None

abbrev pub exchange_entry : PlanParts → Exchange → ExchangeEntry
exchange_entry plan e =
    record {
      data_name = data_name plan e.data_id;
      mesh = mesh_name plan e.mesh;
      from = part_name plan e.from;
      to = part_name plan e.to;
      initialize = e.initialize;
      substeps = e.substeps;
    }

-- the exchanges of a scheme
abbrev pub exchanges_of : PlanParts → (scheme : ℕ) → List Exchange
exchanges_of plan scheme = filter (λ e. nat_eq e.scheme scheme) plan.exchanges

-- a measure, of the data that its exchange carries
abbrev pub measure_entry : PlanParts → Measure → MeasureEntry
measure_entry plan measure =
    record {
      kind = measure_word measure.kind;
      data_name = carried_name plan measure.exchange;
      limit = measure.limit;
      suffices = measure.suffices;
      strict = measure.strict;
    }

-- the data that the accelerated exchanges carry, each of them once
abbrev pub accelerated_data : PlanParts → (over : List ℕ) → List ℕ
accelerated_data plan over = filter (λ d. is_among d (data_carried plan over)) (numbers plan.data_list)

abbrev pub accel_entry : PlanParts → Accel → Option AccelEntry
accel_entry plan A.None = None
accel_entry plan (A.Constant factor over) =
    Some (record { kind = Constant; factor = factor; data_list = map (data_name plan) (accelerated_data plan over) })
accel_entry plan (A.Aitken first over) =
    Some (record { kind = Aitken; factor = first; data_list = map (data_name plan) (accelerated_data plan over) })

-- the scheme of a number
abbrev pub scheme_table : PlanParts → ℕ → Scheme → SchemeTable
scheme_table plan number scheme =
    record {
      kind = kind_word scheme.kind;
      first = one_of_two scheme.kind 0 (map (part_name plan) scheme.members);
      second = one_of_two scheme.kind 1 (map (part_name plan) scheme.members);
      control = first_of_many scheme.kind (map (part_name plan) scheme.members);
      members = all_of_many scheme.kind (map (part_name plan) scheme.members);
      exchange = map (exchange_entry plan) (exchanges_of plan number);
      max_iterations = iterations scheme.kind scheme.max;
      min_iterations = iterations scheme.kind scheme.min;
      measure = map (measure_entry plan) scheme.measures;
      acceleration = accel_entry plan scheme.accel;
    }
