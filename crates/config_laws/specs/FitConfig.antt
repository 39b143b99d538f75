-- The entries of each kind, each of which fits the rest of a configuration. The project's own.
use Rattle.std.specs.Prelude.{◌≡◌, All, IfSome}
use Rattle.cpl_config.specs.declared.kind_words.WindowWord.TheVariants.{FirstParticipant}
use Rattle.cpl_config.specs.declared.config.Config.{Config}
use Rattle.config_laws.specs.Placed.{EachAfter}
use Rattle.config_laws.specs.ToldOnce.{WrittenOnce}
use Rattle.config_laws.specs.FitMeshes.{HasEnd, IsFitMesh, IsFitParticipant, IsFitReceived, IsOnOwnMesh, IsFitRead, IsFitMap, IsFitWatch, IsFitAction}
use Rattle.config_laws.specs.FitSchemes.{IsFitScheme, IsFitExchange, IsFitMeasure, IsFitAcceleration, HasWindowMaker}

abbrev pub FitMeshes : Config → Type 0
FitMeshes config = All (IsFitMesh config) config.mesh

abbrev pub FitParticipants : Config → Type 0
FitParticipants config = All (IsFitParticipant config) config.participant

abbrev pub FitReceived : Config → Type 0
FitReceived config = All (λ table. EachAfter (IsFitReceived config table) table.receives) config.participant

abbrev pub FitWritten : Config → Type 0
FitWritten config = All (λ table. All (IsOnOwnMesh config table) table.write) config.participant

abbrev pub FitRead : Config → Type 0
FitRead config = All (λ table. EachAfter (IsFitRead config table) table.read) config.participant

abbrev pub FitMaps : Config → Type 0
FitMaps config = All (λ table. EachAfter (IsFitMap config table) table.map) config.participant

abbrev pub FitWatches : Config → Type 0
FitWatches config = All (λ table. All (IsFitWatch config table) table.watch) config.participant

abbrev pub FitActions : Config → Type 0
FitActions config = All (λ table. EachAfter (IsFitAction config table) table.action) config.participant

abbrev pub FitSchemes : Config → Type 0
FitSchemes config = EachAfter (IsFitScheme config) config.scheme

abbrev pub FitExchanges : Config → Type 0
FitExchanges config = All (λ table. All (IsFitExchange config table) table.exchange) config.scheme

abbrev pub FitMeasures : Config → Type 0
FitMeasures config = All (λ table. All (IsFitMeasure config table) table.measure) config.scheme

abbrev pub FitAccelerations : Config → Type 0
FitAccelerations config = All (λ table. IfSome table.acceleration (IsFitAcceleration config table)) config.scheme

-- where the steps of the first participant are the windows, it is known whose they are, and for whom
abbrev pub FitWindows : Config → Type 0
FitWindows config = config.window_method ≡ FirstParticipant → HasWindowMaker config

-- all that acceptance says, entry by entry
pub record FitsTogether (config : Config) : Type 0 where
  pub end : HasEnd config
  pub meshes : FitMeshes config
  pub participants : FitParticipants config
  pub received : FitReceived config
  pub written : FitWritten config
  pub written_once : WrittenOnce config
  pub read : FitRead config
  pub mapped : FitMaps config
  pub watched : FitWatches config
  pub acted : FitActions config
  pub schemes : FitSchemes config
  pub exchanged : FitExchanges config
  pub measured : FitMeasures config
  pub accelerated : FitAccelerations config
  pub windows : FitWindows config
