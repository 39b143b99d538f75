-- The configuration that a table of TOML means: each field is the value of the key of its name, or its default. The project's own.
use Rattle.std.specs.Prelude.{ℕ, true, false, List, map, pos, option_map, codes, if◌then◌else◌}
use Rattle.std.specs.Str.{bytes_eq}
use Rattle.toml.specs.Data.{Members, get_member}
use Rattle.cpl_config.specs.TreeValues.{members_of, text_at, integer_at, units_at, texts_at, units_list_at, tables_at, integer_or, truth_or, text_if, integer_if, texts_if}
use Rattle.cpl_config.specs.declared.kind_words.WindowWord.{WindowWord}
use Rattle.cpl_config.specs.declared.kind_words.WindowWord.TheVariants.{Fixed, FirstParticipant}
use Rattle.cpl_config.specs.declared.kind_words.DataKind.{DataKind}
use Rattle.cpl_config.specs.declared.kind_words.DataKind.TheVariants.{Scalar, Vector}
use Rattle.cpl_config.specs.declared.kind_words.Direction.{Direction}
use Rattle.cpl_config.specs.declared.kind_words.Direction.TheVariants.{Read, Write}
use Rattle.cpl_config.specs.declared.kind_words.Constraint.{Constraint}
use Rattle.cpl_config.specs.declared.kind_words.Constraint.TheVariants.{Consistent, Conservative}
use Rattle.cpl_config.specs.declared.kind_words.MapWord.{MapWord}
use Rattle.cpl_config.specs.declared.kind_words.MapWord.TheVariants.{NearestNeighbor, NearestProjection}
use Rattle.cpl_config.specs.declared.kind_words.ActionWord.{ActionWord}
use Rattle.cpl_config.specs.declared.kind_words.ActionWord.TheVariants.{Summation}
use Rattle.cpl_config.specs.declared.kind_words.KindWord.{KindWord}
use Rattle.cpl_config.specs.declared.kind_words.KindWord.TheVariants.{SerialExplicit, ParallelExplicit, SerialImplicit, ParallelImplicit, Multi}
use Rattle.cpl_config.specs.declared.kind_words.MeasureWord.{MeasureWord}
use Rattle.cpl_config.specs.declared.kind_words.MeasureWord.TheVariants.{Absolute, Relative, ResidualRelative}
use Rattle.cpl_config.specs.declared.kind_words.AccelWord.{AccelWord}
use Rattle.cpl_config.specs.declared.kind_words.AccelWord.TheVariants.{Constant, Aitken}
use Rattle.cpl_config.specs.declared.config.Config.{Config}
use Rattle.cpl_config.specs.declared.config.DataTable.{DataTable}
use Rattle.cpl_config.specs.declared.config.MeshTable.{MeshTable}
use Rattle.cpl_config.specs.declared.config.PartTable.{PartTable}
use Rattle.cpl_config.specs.declared.config.ReceivesEntry.{ReceivesEntry}
use Rattle.cpl_config.specs.declared.config.DataEntry.{DataEntry}
use Rattle.cpl_config.specs.declared.config.MapEntry.{MapEntry}
use Rattle.cpl_config.specs.declared.config.WatchEntry.{WatchEntry}
use Rattle.cpl_config.specs.declared.config.ActionEntry.{ActionEntry}
use Rattle.cpl_config.specs.declared.config.SchemeTable.{SchemeTable}
use Rattle.cpl_config.specs.declared.config.ExchangeEntry.{ExchangeEntry}
use Rattle.cpl_config.specs.declared.config.MeasureEntry.{MeasureEntry}
use Rattle.cpl_config.specs.declared.config.AccelEntry.{AccelEntry}

-- Words: what is not listed stands for the default of a key that may be left out, and else for the last listed one.

abbrev pub window_method_of : List ℕ → WindowWord
window_method_of word = if bytes_eq word (codes "first-participant") then FirstParticipant else Fixed

abbrev pub data_kind_of : List ℕ → DataKind
data_kind_of word = if bytes_eq word (codes "scalar") then Scalar else Vector

abbrev pub direction_of : List ℕ → Direction
direction_of word = if bytes_eq word (codes "read") then Read else Write

abbrev pub constraint_of : List ℕ → Constraint
constraint_of word = if bytes_eq word (codes "consistent") then Consistent else Conservative

abbrev pub map_method_of : List ℕ → MapWord
map_method_of word = if bytes_eq word (codes "nearest-projection") then NearestProjection else NearestNeighbor

abbrev pub action_kind_of : List ℕ → ActionWord
action_kind_of _ = Summation

abbrev pub scheme_kind_of : List ℕ → KindWord
scheme_kind_of word =
    if bytes_eq word (codes "serial-explicit") then SerialExplicit
    else if bytes_eq word (codes "parallel-explicit") then ParallelExplicit
    else if bytes_eq word (codes "serial-implicit") then SerialImplicit
    else if bytes_eq word (codes "parallel-implicit") then ParallelImplicit
    else Multi

abbrev pub measure_kind_of : List ℕ → MeasureWord
measure_kind_of word =
    if bytes_eq word (codes "absolute") then Absolute
    else if bytes_eq word (codes "relative") then Relative
    else ResidualRelative

abbrev pub acceleration_kind_of : List ℕ → AccelWord
acceleration_kind_of word = if bytes_eq word (codes "constant") then Constant else Aitken

-- Tables

abbrev pub data_of : Members → DataTable
data_of members =
    record {
      name = text_at (codes "name") members;
      kind = data_kind_of (text_at (codes "kind") members);
      degree = integer_or (pos 1) (codes "degree") members;
    }

abbrev pub mesh_of : Members → MeshTable
mesh_of members =
    record {
      name = text_at (codes "name") members;
      dimensions = integer_at (codes "dimensions") members;
      data_list = texts_at (codes "data") members;
    }

abbrev pub receives_of : Members → ReceivesEntry
receives_of members =
    record {
      mesh = text_at (codes "mesh") members;
      from = text_at (codes "from") members;
    }

abbrev pub data_entry_of : Members → DataEntry
data_entry_of members =
    record {
      data_name = text_at (codes "data") members;
      mesh = text_at (codes "mesh") members;
    }

abbrev pub map_of : Members → MapEntry
map_of members =
    record {
      direction = direction_of (text_at (codes "direction") members);
      from = text_at (codes "from") members;
      to = text_at (codes "to") members;
      constraint = constraint_of (text_at (codes "constraint") members);
      method = map_method_of (text_at (codes "method") members);
    }

abbrev pub watch_of : Members → WatchEntry
watch_of members =
    record {
      name = text_at (codes "name") members;
      mesh = text_at (codes "mesh") members;
      at = units_list_at (codes "at") members;
    }

abbrev pub action_of : Members → ActionEntry
action_of members =
    record {
      kind = action_kind_of (text_at (codes "kind") members);
      mesh = text_at (codes "mesh") members;
      sources = texts_at (codes "sources") members;
      target = text_at (codes "target") members;
    }

abbrev pub participant_of : Members → PartTable
participant_of members =
    record {
      name = text_at (codes "name") members;
      case = text_at (codes "case") members;
      provides = texts_at (codes "provides") members;
      receives = map receives_of (tables_at (codes "receives") members);
      write = map data_entry_of (tables_at (codes "write") members);
      read = map data_entry_of (tables_at (codes "read") members);
      map = map map_of (tables_at (codes "map") members);
      watch = map watch_of (tables_at (codes "watch") members);
      action = map action_of (tables_at (codes "action") members);
    }

abbrev pub exchange_of : Members → ExchangeEntry
exchange_of members =
    record {
      data_name = text_at (codes "data") members;
      mesh = text_at (codes "mesh") members;
      from = text_at (codes "from") members;
      to = text_at (codes "to") members;
      initialize = truth_or false (codes "initialize") members;
      substeps = truth_or true (codes "substeps") members;
    }

abbrev pub measure_of : Members → MeasureEntry
measure_of members =
    record {
      kind = measure_kind_of (text_at (codes "kind") members);
      data_name = text_at (codes "data") members;
      limit = units_at (codes "limit") members;
      suffices = truth_or false (codes "suffices") members;
      strict = truth_or false (codes "strict") members;
    }

abbrev pub acceleration_of : Members → AccelEntry
acceleration_of members =
    record {
      kind = acceleration_kind_of (text_at (codes "kind") members);
      factor = units_at (codes "factor") members;
      data_list = texts_at (codes "data") members;
    }

abbrev pub scheme_of : Members → SchemeTable
scheme_of members =
    record {
      kind = scheme_kind_of (text_at (codes "kind") members);
      first = text_if (codes "first") members;
      second = text_if (codes "second") members;
      control = text_if (codes "control") members;
      members = texts_if (codes "members") members;
      exchange = map exchange_of (tables_at (codes "exchange") members);
      max_iterations = integer_if (codes "max-iterations") members;
      min_iterations = integer_if (codes "min-iterations") members;
      measure = map measure_of (tables_at (codes "measure") members);
      acceleration = option_map (λ value. acceleration_of (members_of value)) (get_member (codes "acceleration") members);
    }

abbrev pub config_of : Members → Config
config_of members =
    record {
      format = integer_at (codes "format") members;
      window_method = window_method_of (text_at (codes "window-method") members);
      window = integer_at (codes "window") members;
      max_time = integer_if (codes "max-time") members;
      max_windows = integer_if (codes "max-windows") members;
      data_list = map data_of (tables_at (codes "data") members);
      mesh = map mesh_of (tables_at (codes "mesh") members);
      participant = map participant_of (tables_at (codes "participant") members);
      scheme = map scheme_of (tables_at (codes "scheme") members);
    }
