-- Other names for what a configuration names, in all places alike. The project's own.
use Rattle.std.specs.Prelude.{◌≡◌, ℕ, List, map, option_map}
use Rattle.cpl_config.specs.declared.config.Config.{Config}
use Rattle.cpl_config.specs.declared.config.DataTable.{DataTable}
use Rattle.cpl_config.specs.declared.config.MeshTable.{MeshTable}
use Rattle.cpl_config.specs.declared.config.PartTable.{PartTable}
use Rattle.cpl_config.specs.declared.config.ReceivesEntry.{ReceivesEntry}
use Rattle.cpl_config.specs.declared.config.DataEntry.{DataEntry}
use Rattle.cpl_config.specs.declared.config.MapEntry.{MapEntry}
use Rattle.cpl_config.specs.declared.config.WatchEntry.{WatchEntry}
use Rattle.cpl_config.specs.declared.config.ActionEntry.{ActionEntry}
use Rattle.cpl_config.specs.declared.config.SchemeTable.{SchemeTable}
use Rattle.cpl_config.specs.declared.config.ExchangeEntry.{ExchangeEntry}
use Rattle.cpl_config.specs.declared.config.MeasureEntry.{MeasureEntry}
use Rattle.cpl_config.specs.declared.config.AccelEntry.{AccelEntry}

-- the other name of each name, by what it is a name of
pub record Renaming : Type 0 where
  pub data_item : List ℕ → List ℕ
  pub mesh : List ℕ → List ℕ
  pub participant : List ℕ → List ℕ
  pub case_file : List ℕ → List ℕ
  pub watch : List ℕ → List ℕ

-- no two data, meshes or participants get one name
pub record KeepsApart (names : Renaming) : Type 0 where
  pub data_apart : (one other : List ℕ) → names.data_item one ≡ names.data_item other → one ≡ other
  pub meshes_apart : (one other : List ℕ) → names.mesh one ≡ names.mesh other → one ≡ other
  pub participants_apart : (one other : List ℕ) → names.participant one ≡ names.participant other → one ≡ other

abbrev pub renamed_data : Renaming → DataTable → DataTable
renamed_data names table = record table { name = names.data_item table.name }

abbrev pub renamed_mesh : Renaming → MeshTable → MeshTable
renamed_mesh names table = record table { name = names.mesh table.name; data_list = map names.data_item table.data_list }

abbrev pub renamed_receives : Renaming → ReceivesEntry → ReceivesEntry
renamed_receives names entry = record { mesh = names.mesh entry.mesh; from = names.participant entry.from }

abbrev pub renamed_entry : Renaming → DataEntry → DataEntry
renamed_entry names entry = record { data_name = names.data_item entry.data_name; mesh = names.mesh entry.mesh }

abbrev pub renamed_map : Renaming → MapEntry → MapEntry
renamed_map names entry = record entry { from = names.mesh entry.from; to = names.mesh entry.to }

abbrev pub renamed_watch : Renaming → WatchEntry → WatchEntry
renamed_watch names entry = record entry { name = names.watch entry.name; mesh = names.mesh entry.mesh }

abbrev pub renamed_action : Renaming → ActionEntry → ActionEntry
renamed_action names entry =
    record entry { mesh = names.mesh entry.mesh; sources = map names.data_item entry.sources; target = names.data_item entry.target }

abbrev pub renamed_participant : Renaming → PartTable → PartTable
renamed_participant names table =
    record {
      name = names.participant table.name;
      case = names.case_file table.case;
      provides = map names.mesh table.provides;
      receives = map (renamed_receives names) table.receives;
      write = map (renamed_entry names) table.write;
      read = map (renamed_entry names) table.read;
      map = map (renamed_map names) table.map;
      watch = map (renamed_watch names) table.watch;
      action = map (renamed_action names) table.action;
    }

abbrev pub renamed_exchange : Renaming → ExchangeEntry → ExchangeEntry
renamed_exchange names entry =
    record entry {
      data_name = names.data_item entry.data_name;
      mesh = names.mesh entry.mesh;
      from = names.participant entry.from;
      to = names.participant entry.to;
    }

abbrev pub renamed_measure : Renaming → MeasureEntry → MeasureEntry
renamed_measure names entry = record entry { data_name = names.data_item entry.data_name }

abbrev pub renamed_acceleration : Renaming → AccelEntry → AccelEntry
renamed_acceleration names entry = record entry { data_list = map names.data_item entry.data_list }

abbrev pub renamed_scheme : Renaming → SchemeTable → SchemeTable
renamed_scheme names table =
    record table {
      first = option_map names.participant table.first;
      second = option_map names.participant table.second;
      control = option_map names.participant table.control;
      members = option_map (map names.participant) table.members;
      exchange = map (renamed_exchange names) table.exchange;
      measure = map (renamed_measure names) table.measure;
      acceleration = option_map (renamed_acceleration names) table.acceleration;
    }

-- the same configuration under the other names
abbrev pub renamed : Renaming → Config → Config
renamed names config =
    record config {
      data_list = map (renamed_data names) config.data_list;
      mesh = map (renamed_mesh names) config.mesh;
      participant = map (renamed_participant names) config.participant;
      scheme = map (renamed_scheme names) config.scheme;
    }
