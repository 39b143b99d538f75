-- Schemes and what is in them, as they fit the rest of a configuration. The project's own, after what the coupling documentation asks of a configuration.
use Rattle.std.specs.Prelude.{◌≡◌, ◌≢◌, ◌⊎◌, ℕ, ◌≤◌, IsTrue, IsFalse, List, [], ◌∷◌, ◌++◌, length, filter, find, count_by, sum_by, Some, None, unwrap_or, All, Contains, ℤ, pos, unsigned_abs}
use Rattle.std.specs.Str.{bytes_eq}
use Rattle.cpl_config.specs.declared.kind_words.Direction.TheVariants.{Read, Write}
use Rattle.cpl_config.specs.declared.kind_words.KindWord.TheVariants.{SerialExplicit}
use Rattle.cpl_config.specs.declared.config.Config.{Config}
use Rattle.cpl_config.specs.declared.config.PartTable.{PartTable}
use Rattle.cpl_config.specs.declared.config.DataEntry.{DataEntry}
use Rattle.cpl_config.specs.declared.config.SchemeTable.{SchemeTable}
use Rattle.cpl_config.specs.declared.config.ExchangeEntry.{ExchangeEntry}
use Rattle.cpl_config.specs.declared.config.MeasureEntry.{MeasureEntry}
use Rattle.cpl_config.specs.declared.config.AccelEntry.{AccelEntry}
use Rattle.mesh_rules.specs.Named.{is_data, is_mesh, is_participant, participant_called, carries, provides, receives}
use Rattle.mesh_rules.specs.MeshRules.{has_map}
use Rattle.config_rules.specs.Members.{is_multi, is_implicit, members, is_member}
use Rattle.config_rules.specs.SchemeRules.{writes, reads, relaxes, components_of, is_accelerated}
use Rattle.config_rules.specs.Circles.{steps_of}
use Rattle.config_laws.specs.Circling.{GoesRound}

-- a first and a second, which are two, and no more
pub record HasTwo (table : SchemeTable) : Type 0 where
  pub first : List ℕ
  pub second : List ℕ
  pub first_told : table.first ≡ Some first
  pub second_told : table.second ≡ Some second
  pub apart : first ≢ second
  pub no_control : table.control ≡ None
  pub no_list : table.members ≡ None

-- two members or more, one of which is the control
pub record HasMany (table : SchemeTable) : Type 0 where
  pub names : List (List ℕ)
  pub control : List ℕ
  pub names_told : table.members ≡ Some names
  pub control_told : table.control ≡ Some control
  pub two_or_more : 2 ≤ length names
  pub control_listed : Contains names control
  pub no_first : table.first ≡ None
  pub no_second : table.second ≡ None

-- a greatest number of iterations, and a least one that is not over it, which is 1 where it is left out
pub record HasIterations (table : SchemeTable) : Type 0 where
  pub greatest : ℤ
  pub told : table.max_iterations ≡ Some greatest
  pub in_order : unsigned_abs (unwrap_or table.min_iterations (pos 1)) ≤ unsigned_abs greatest

-- windows are repeated until measures are met
pub record RepeatsWindows (table : SchemeTable) : Type 0 where
  pub iterations : HasIterations table
  pub measured : 1 ≤ length table.measure

-- windows are not repeated: there is nothing to measure and nothing to relax
pub record RunsOnce (table : SchemeTable) : Type 0 where
  pub no_greatest : table.max_iterations ≡ None
  pub no_least : table.min_iterations ≡ None
  pub no_measures : table.measure ≡ []
  pub no_acceleration : table.acceleration ≡ None

-- no participant of the scheme is in the other
abbrev pub ShareNone : SchemeTable → SchemeTable → Type 0
ShareNone table other = All (λ name. IsFalse (is_member name other)) (members table)

-- a scheme's members and numbers are as its kind asks; of those before it none has two of its members, none has one where both are implicit, and with them it makes no circle
pub record IsFitScheme (config : Config) (earlier : List SchemeTable) (table : SchemeTable) : Type 0 where
  pub declared : All (λ name. IsTrue (is_participant config name)) (members table)
  pub two : IsFalse (is_multi table) → HasTwo table
  pub many : IsTrue (is_multi table) → HasMany table
  pub meets_once : All (λ other. count_by (λ name. is_member name other) (members table) ≤ 1) earlier
  pub one_group : IsTrue (is_implicit table) → All (λ other. IsTrue (is_implicit other) → ShareNone table other) earlier
  pub implicit : IsTrue (is_implicit table) → RepeatsWindows table
  pub explicit : IsFalse (is_implicit table) → RunsOnce table
  pub no_circle : ¬ GoesRound (steps_of config (earlier ++ table ∷ []))

-- where the writer has the exchange's data on another mesh, it maps them onto the exchange's
abbrev pub IsMappedThere : ExchangeEntry → PartTable → DataEntry → Type 0
IsMappedThere exchange writer entry =
    entry.data_name ≡ exchange.data_name → entry.mesh ≢ exchange.mesh → IsTrue (has_map writer Write entry.mesh exchange.mesh)

-- where the reader has them on another mesh, it maps them from the exchange's
abbrev pub IsMappedHere : ExchangeEntry → PartTable → DataEntry → Type 0
IsMappedHere exchange reader entry =
    entry.data_name ≡ exchange.data_name → entry.mesh ≢ exchange.mesh → IsTrue (has_map reader Read exchange.mesh entry.mesh)

-- the one provides the mesh, and the other receives it
abbrev pub HandsOver : (owner other : PartTable) → (mesh : List ℕ) → Type 0
HandsOver owner other mesh = IsTrue (provides owner mesh) × IsTrue (receives other mesh)

-- an exchange goes from a member that writes its data to another one that reads them, over a mesh of the one that the other receives; where either has them on another mesh, a mapping goes there
pub record IsFitExchange (config : Config) (table : SchemeTable) (entry : ExchangeEntry) : Type 0 where
  pub data_declared : IsTrue (is_data config entry.data_name)
  pub mesh_declared : IsTrue (is_mesh config entry.mesh)
  pub carried : IsTrue (carries config entry.mesh entry.data_name)
  pub apart : entry.from ≢ entry.to
  pub from_member : IsTrue (is_member entry.from table)
  pub to_member : IsTrue (is_member entry.to table)
  pub writer : PartTable
  pub writer_called : participant_called config entry.from ≡ Some writer
  pub reader : PartTable
  pub reader_called : participant_called config entry.to ≡ Some reader
  pub written : IsTrue (writes entry.data_name writer)
  pub read : IsTrue (reads entry.data_name reader)
  pub crossing : HandsOver writer reader entry.mesh ⊎ HandsOver reader writer entry.mesh
  pub mapped_there : All (IsMappedThere entry writer) writer.write
  pub mapped_here : All (IsMappedHere entry reader) reader.read

-- a measure looks at the first exchange of its scheme that carries its data
pub record IsFitMeasure (config : Config) (table : SchemeTable) (entry : MeasureEntry) : Type 0 where
  pub data_declared : IsTrue (is_data config entry.data_name)
  pub exchange : ExchangeEntry
  pub first : find (λ other. bytes_eq other.data_name entry.data_name) table.exchange ≡ Some exchange

-- an acceleration is of some data, each of which an exchange carries that is relaxed, with at most 20 components a vertex in all
pub record IsFitAcceleration (config : Config) (table : SchemeTable) (entry : AccelEntry) : Type 0 where
  pub implicit : IsTrue (is_implicit table)
  pub declared : All (λ name. IsTrue (is_data config name)) entry.data_list
  pub some : 1 ≤ length entry.data_list
  pub relaxed : All (λ name. IsTrue (relaxes table name)) entry.data_list
  pub narrow : sum_by (components_of config) (filter (is_accelerated table entry) table.exchange) ≤ 20

-- there is one scheme alone, which is serial-explicit, and an exchange of it goes from its first to its second
pub record HasWindowMaker (config : Config) : Type 0 where
  pub table : SchemeTable
  pub alone : config.scheme ≡ table ∷ []
  pub serial_explicit : table.kind ≡ SerialExplicit
  pub forward : ExchangeEntry
  pub there : Contains table.exchange forward
  pub from_first : table.first ≡ Some forward.from
  pub to_second : table.second ≡ Some forward.to
