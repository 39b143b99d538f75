-- Meshes, participants and what is in them, as they fit the rest of a configuration. The project's own, after what the coupling documentation asks of a configuration.
use Rattle.std.specs.Prelude.{◌≡◌, ◌≢◌, ◌⊎◌, ◌*◌, ◌^◌, ◌≤◌, ℕ, IsTrue, IsFalse, List, length, Some, None, All, Contains, ℤ, unsigned_abs}
use Rattle.std.specs.List.{list_any}
use Rattle.cpl_config.specs.declared.kind_words.WindowWord.{WindowWord}
use Rattle.cpl_config.specs.declared.kind_words.WindowWord.TheVariants.{Fixed, FirstParticipant}
use Rattle.cpl_config.specs.declared.config.Config.{Config}
use Rattle.cpl_config.specs.declared.config.MeshTable.{MeshTable}
use Rattle.cpl_config.specs.declared.config.PartTable.{PartTable}
use Rattle.cpl_config.specs.declared.config.ReceivesEntry.{ReceivesEntry}
use Rattle.cpl_config.specs.declared.config.DataEntry.{DataEntry}
use Rattle.cpl_config.specs.declared.config.MapEntry.{MapEntry}
use Rattle.cpl_config.specs.declared.config.WatchEntry.{WatchEntry}
use Rattle.cpl_config.specs.declared.config.ActionEntry.{ActionEntry}
use Rattle.cpl_config.specs.declared.config.ExchangeEntry.{ExchangeEntry}
use Rattle.cpl_config.specs.SoundConfig.{all_exchanges}
use Rattle.mesh_rules.specs.Named.{is_data, is_mesh, participant_called, carries, dimensions_of, provides}
use Rattle.mesh_rules.specs.MeshRules.{has_right_ends, goes}
use Rattle.mesh_rules.specs.ActionRules.{kind_called}
use Rattle.config_rules.specs.Members.{is_member}
use Rattle.config_rules.specs.SchemeRules.{feeds}
use Rattle.config_laws.specs.Placed.{IsOnlyOne}

-- the end is told as a time, within a million windows
pub record EndsInTime (config : Config) : Type 0 where
  pub time : ℤ
  pub told : config.max_time ≡ Some time
  pub alone : config.max_windows ≡ None
  pub near : unsigned_abs time ≤ 10 ^ 6 * unsigned_abs config.window

-- the end is told as a number of windows
pub record EndsInWindows (config : Config) : Type 0 where
  pub windows : ℤ
  pub told : config.max_windows ≡ Some windows
  pub alone : config.max_time ≡ None

-- there is a number of windows, whether or not there is a time too
pub record EndsAtLast (config : Config) : Type 0 where
  pub windows : ℤ
  pub told : config.max_windows ≡ Some windows

-- windows of one length end in one of the two ways, those of the first participant's steps at a last one at the latest
abbrev pub EndsBy : Config → WindowWord → Type 0
EndsBy config Fixed = EndsInTime config ⊎ EndsInWindows config
EndsBy config FirstParticipant = EndsAtLast config

-- the end is told
abbrev pub HasEnd : Config → Type 0
HasEnd config = EndsBy config config.window_method

-- the data on a mesh are declared, and one participant alone provides the mesh
pub record IsFitMesh (config : Config) (table : MeshTable) : Type 0 where
  pub data_declared : All (λ name. IsTrue (is_data config name)) table.data_list
  pub owner : PartTable
  pub owned : IsOnlyOne (λ part. provides part table.name) config.participant owner

-- the meshes that a participant provides are declared, and it is in a scheme
pub record IsFitParticipant (config : Config) (table : PartTable) : Type 0 where
  pub provided_declared : All (λ mesh. IsTrue (is_mesh config mesh)) table.provides
  pub in_a_scheme : IsTrue (list_any (is_member table.name) config.scheme)

-- a received mesh is provided by the one that it is received from, not by the one that receives it, which does so once
pub record IsFitReceived (config : Config) (table : PartTable) (earlier : List ReceivesEntry) (entry : ReceivesEntry) : Type 0 where
  pub mesh_declared : IsTrue (is_mesh config entry.mesh)
  pub sender : PartTable
  pub sender_called : participant_called config entry.from ≡ Some sender
  pub provided : IsTrue (provides sender entry.mesh)
  pub not_own : IsFalse (provides table entry.mesh)
  pub once : All (λ other. other.mesh ≢ entry.mesh) earlier

-- data that are written or read are on a mesh that the participant provides
pub record IsOnOwnMesh (config : Config) (table : PartTable) (entry : DataEntry) : Type 0 where
  pub data_declared : IsTrue (is_data config entry.data_name)
  pub mesh_declared : IsTrue (is_mesh config entry.mesh)
  pub carried : IsTrue (carries config entry.mesh entry.data_name)
  pub own : IsTrue (provides table entry.mesh)

-- data are read once by a participant, and one exchange alone feeds it with them
pub record IsFitRead (config : Config) (table : PartTable) (earlier : List DataEntry) (entry : DataEntry) : Type 0 where
  pub placed : IsOnOwnMesh config table entry
  pub once : All (λ other. other.data_name ≢ entry.data_name) earlier
  pub feeder : ExchangeEntry
  pub fed : IsOnlyOne (feeds table.name entry.data_name) (all_exchanges config) feeder

-- a mapping goes from a received to an own mesh or the other way, between as many dimensions, and no other one goes there
pub record IsFitMap (config : Config) (table : PartTable) (earlier : List MapEntry) (entry : MapEntry) : Type 0 where
  pub from_declared : IsTrue (is_mesh config entry.from)
  pub to_declared : IsTrue (is_mesh config entry.to)
  pub ends : IsTrue (has_right_ends table entry.direction entry.from entry.to)
  pub dimensions : dimensions_of config entry.from ≡ dimensions_of config entry.to
  pub once : All (λ other. IsFalse (goes entry.direction entry.from entry.to other)) earlier

-- a watch-point is on an own mesh, with a coordinate for each dimension
pub record IsFitWatch (config : Config) (table : PartTable) (entry : WatchEntry) : Type 0 where
  pub mesh_declared : IsTrue (is_mesh config entry.mesh)
  pub own : IsTrue (provides table entry.mesh)
  pub coordinates : length entry.at ≡ unsigned_abs (dimensions_of config entry.mesh)

-- the participant writes the data on the mesh
abbrev pub IsWrittenOn : PartTable → (mesh data_name : List ℕ) → Type 0
IsWrittenOn table mesh data_name = Contains table.write (record { data_name = data_name; mesh = mesh })

-- an action sums data that are written on its mesh, of the kind of its target, which is written there, is no source of an action of the participant and the target of no earlier one
pub record IsFitAction (config : Config) (table : PartTable) (earlier : List ActionEntry) (entry : ActionEntry) : Type 0 where
  pub mesh_declared : IsTrue (is_mesh config entry.mesh)
  pub target_declared : IsTrue (is_data config entry.target)
  pub sources_declared : All (λ name. IsTrue (is_data config name)) entry.sources
  pub some : 1 ≤ length entry.sources
  pub target_written : IsWrittenOn table entry.mesh entry.target
  pub sources_written : All (λ name. IsWrittenOn table entry.mesh name) entry.sources
  pub no_own_source : ¬ Contains entry.sources entry.target
  pub once : All (λ other. other.target ≢ entry.target) earlier
  pub no_source : All (λ other. ¬ Contains other.sources entry.target) table.action
  pub one_kind : All (λ name. kind_called config name ≡ kind_called config entry.target) entry.sources
