-- A configuration whose names, texts, numbers and lists are within their ranges and limits, and whose names are distinct. The project's own.
use Rattle.std.specs.Prelude.{◌≤◌, ◌^◌, ◌≡◌, ℕ, List, [], length, map, flat_map, All, IfSome, IsTrue, ℤ, pos}
use Rattle.cpl_tables.specs.Values.{is_name, is_short_text, is_in_range, are_distinct_texts}
use Rattle.cpl_tables.specs.declared.shapes.Range.{Range}
use Rattle.cpl_tables.specs.declared.shapes.Range.TheVariants.{Within, Between}
use Rattle.cpl_config.specs.declared.kind_words.WindowWord.TheVariants.{Fixed}
use Rattle.cpl_config.specs.declared.kind_words.MapWord.TheVariants.{NearestNeighbor}
use Rattle.cpl_config.specs.declared.config.Config.{Config}
use Rattle.cpl_config.specs.declared.config.DataTable.{DataTable}
use Rattle.cpl_config.specs.declared.config.MeshTable.{MeshTable}
use Rattle.cpl_config.specs.declared.config.PartTable.{PartTable}
use Rattle.cpl_config.specs.declared.config.ReceivesEntry.{ReceivesEntry}
use Rattle.cpl_config.specs.declared.config.DataEntry.{DataEntry}
use Rattle.cpl_config.specs.declared.config.MapEntry.{MapEntry}
use Rattle.cpl_config.specs.declared.config.WatchEntry.{WatchEntry}
use Rattle.cpl_config.specs.declared.config.ActionEntry.{ActionEntry}
use Rattle.cpl_config.specs.declared.config.SchemeTable.{SchemeTable}
use Rattle.cpl_config.specs.declared.config.ExchangeEntry.{ExchangeEntry}
use Rattle.cpl_config.specs.declared.config.MeasureEntry.{MeasureEntry}
use Rattle.cpl_config.specs.declared.config.AccelEntry.{AccelEntry}

-- 1 to 64 visible characters
abbrev pub IsName : List ℕ → Type 0
IsName text = IsTrue (is_name text)

abbrev pub IsIn : Range → ℤ → Type 0
IsIn range z = IsTrue (is_in_range range z)

-- names, none of them twice
pub record IsNameList (names : List (List ℕ)) : Type 0 where
  pub each : All IsName names
  pub once : IsTrue (are_distinct_texts names)

pub record IsSoundData (table : DataTable) : Type 0 where
  pub name : IsName table.name
  pub degree : IsIn (Between 0 1) table.degree

pub record IsSoundMesh (table : MeshTable) : Type 0 where
  pub name : IsName table.name
  pub dimensions : IsIn (Between 2 3) table.dimensions
  pub data_names : IsNameList table.data_list

pub record IsSoundReceives (entry : ReceivesEntry) : Type 0 where
  pub mesh : IsName entry.mesh
  pub from : IsName entry.from

pub record IsSoundDataEntry (entry : DataEntry) : Type 0 where
  pub data_name : IsName entry.data_name
  pub mesh : IsName entry.mesh

pub record IsSoundMap (entry : MapEntry) : Type 0 where
  pub from : IsName entry.from
  pub to : IsName entry.to

pub record IsSoundWatch (entry : WatchEntry) : Type 0 where
  pub name : IsName entry.name
  pub mesh : IsName entry.mesh
  pub coordinates : All (IsIn (Within (10 ^ 12))) entry.at

pub record IsSoundAction (entry : ActionEntry) : Type 0 where
  pub mesh : IsName entry.mesh
  pub sources : IsNameList entry.sources
  pub few_sources : length entry.sources ≤ 64
  pub target : IsName entry.target

pub record IsSoundParticipant (table : PartTable) : Type 0 where
  pub name : IsName table.name
  pub case_text : IsTrue (is_short_text table.case)
  pub provides : IsNameList table.provides
  pub receives : All IsSoundReceives table.receives
  pub few_receives : length table.receives ≤ 64
  pub writes : All IsSoundDataEntry table.write
  pub few_writes : length table.write ≤ 64
  pub reads : All IsSoundDataEntry table.read
  pub few_reads : length table.read ≤ 64
  pub maps : All IsSoundMap table.map
  pub few_maps : length table.map ≤ 64
  pub watches : All IsSoundWatch table.watch
  pub actions : All IsSoundAction table.action
  pub few_actions : length table.action ≤ 64

pub record IsSoundExchange (entry : ExchangeEntry) : Type 0 where
  pub data_name : IsName entry.data_name
  pub mesh : IsName entry.mesh
  pub from : IsName entry.from
  pub to : IsName entry.to

pub record IsSoundMeasure (entry : MeasureEntry) : Type 0 where
  pub data_name : IsName entry.data_name
  pub limit : IsIn (Between 0 (10 ^ 13)) entry.limit

pub record IsSoundAcceleration (entry : AccelEntry) : Type 0 where
  pub factor : IsIn (Between 1 (10 ^ 6)) entry.factor
  pub data_names : IsNameList entry.data_list

pub record IsSoundScheme (table : SchemeTable) : Type 0 where
  pub first : IfSome table.first IsName
  pub second : IfSome table.second IsName
  pub control : IfSome table.control IsName
  pub members : IfSome table.members IsNameList
  pub exchanges : All IsSoundExchange table.exchange
  pub greatest : IfSome table.max_iterations (IsIn (Between 1 1000))
  pub least : IfSome table.min_iterations (IsIn (Between 1 1000))
  pub measures : All IsSoundMeasure table.measure
  pub few_measures : length table.measure ≤ 16
  pub acceleration : IfSome table.acceleration IsSoundAcceleration

-- the watch-points and the exchanges of the whole file, one after the other
abbrev pub all_watches : Config → List WatchEntry
all_watches config = flat_map (λ table. table.watch) config.participant

abbrev pub all_exchanges : Config → List ExchangeEntry
all_exchanges config = flat_map (λ table. table.exchange) config.scheme

-- what format 2 alone can say has its default
pub record IsPlain (config : Config) : Type 0 where
  pub windows : config.window_method ≡ Fixed
  pub maps : All (λ table. All (λ entry. entry.method ≡ NearestNeighbor) table.map) config.participant
  pub actions : All (λ table. table.action ≡ []) config.participant

pub record IsSoundConfig (config : Config) : Type 0 where
  pub format : IsIn (Between 1 2) config.format
  pub plain : config.format ≡ pos 1 → IsPlain config
  pub window : IsIn (Between 1 (10 ^ 9)) config.window
  pub max_time : IfSome config.max_time (IsIn (Between 1 (10 ^ 15)))
  pub max_windows : IfSome config.max_windows (IsIn (Between 1 (10 ^ 6)))
  pub data_tables : All IsSoundData config.data_list
  pub few_data : length config.data_list ≤ 64
  pub data_once : IsTrue (are_distinct_texts (map (λ table. table.name) config.data_list))
  pub meshes : All IsSoundMesh config.mesh
  pub few_meshes : length config.mesh ≤ 64
  pub mesh_once : IsTrue (are_distinct_texts (map (λ table. table.name) config.mesh))
  pub participants : All IsSoundParticipant config.participant
  pub a_participant : 1 ≤ length config.participant
  pub few_participants : length config.participant ≤ 64
  pub participant_once : IsTrue (are_distinct_texts (map (λ table. table.name) config.participant))
  pub schemes : All IsSoundScheme config.scheme
  pub a_scheme : 1 ≤ length config.scheme
  pub few_schemes : length config.scheme ≤ 64
  pub few_watches : length (all_watches config) ≤ 64
  pub watch_once : IsTrue (are_distinct_texts (map (λ entry. entry.name) (all_watches config)))
  pub few_exchanges : length (all_exchanges config) ≤ 256
