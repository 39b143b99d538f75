-- From what each entry keeps to what each entry fits.
use Rattle.std.proofs.Common.{◌≡◌, true, List, Option, Some, None, IfSome, All}
use Rattle.std.specs.Prelude.{is_some}
use Rattle.std.specs.Option.{IsSomeAnd}
use Rattle.std.proofs.lemmas.List.Elements.{All-weaker}
use Rattle.cpl_config.specs.declared.config.Config.{Config}
use Rattle.cpl_config.specs.declared.config.MeshTable.{MeshTable}
use Rattle.cpl_config.specs.declared.config.PartTable.{PartTable}
use Rattle.cpl_config.specs.declared.config.ReceivesEntry.{ReceivesEntry}
use Rattle.cpl_config.specs.declared.config.DataEntry.{DataEntry}
use Rattle.cpl_config.specs.declared.config.MapEntry.{MapEntry}
use Rattle.cpl_config.specs.declared.config.WatchEntry.{WatchEntry}
use Rattle.cpl_config.specs.declared.config.ActionEntry.{ActionEntry}
use Rattle.cpl_config.specs.declared.config.SchemeTable.{SchemeTable}
use Rattle.cpl_config.specs.declared.config.ExchangeEntry.{ExchangeEntry}
use Rattle.cpl_config.specs.declared.config.MeasureEntry.{MeasureEntry}
use Rattle.cpl_config.specs.declared.config.AccelEntry.{AccelEntry}
use Rattle.mesh_rules.specs.Entries.{mesh, received, written, read, mapped, watched, acted, exchanged, measured, accelerated}
use Rattle.config_rules.specs.ConfigRules.{IsAccepted}
use Rattle.config_laws.specs.Placed.{EachAfter}
use Rattle.config_laws.specs.FitMeshes.{HasEnd, IsFitMesh, IsFitParticipant, IsFitReceived, IsOnOwnMesh, IsFitRead, IsFitMap, IsFitWatch, IsFitAction}
use Rattle.config_laws.specs.FitSchemes.{IsFitScheme, IsFitExchange, IsFitMeasure, IsFitAcceleration}
use Rattle.config_laws.specs.FitConfig.{FitMeshes, FitParticipants, FitReceived, FitWritten, FitRead, FitMaps, FitWatches, FitActions, FitSchemes, FitExchanges, FitMeasures, FitAccelerations}
use Rattle.config_laws.proofs.Splits.{each_weaker, each_all}
use Rattle.config_laws.proofs.KeptRules.{Kept, KeptParticipant, KeptScheme, kept}
use Rattle.config_laws.proofs.ActionFacts.{fit_action}
use Rattle.config_laws.proofs.MeshFacts.{fit_end, fit_mesh, fit_participant, fit_received, fit_written, fit_read, fit_map, fit_watch}
use Rattle.config_laws.proofs.SchemeFacts.{fit_scheme, fit_exchange, fit_measure, fit_acceleration}

-- what is kept in each participant's table
in_participants : (config : Config) (P : PartTable → Type 0) → ((table : PartTable) → KeptParticipant config table → P table) → IsAccepted config → All P config.participant
in_participants config P f accepted = All-weaker (KeptParticipant config) P f config.participant (kept config accepted).participants

-- what is kept in each scheme's table, whatever stands before it
in_schemes : (config : Config) (P : SchemeTable → Type 0) → ((earlier : List SchemeTable) (table : SchemeTable) → KeptScheme config earlier table → P table) → IsAccepted config → All P config.scheme
in_schemes config P f accepted = each_all P config.scheme (each_weaker (KeptScheme config) (λ (earlier : List SchemeTable) (table : SchemeTable). P table) config.scheme f (kept config accepted).schemes)

pub end : (config : Config) → IsAccepted config → HasEnd config
end config accepted = fit_end config (kept config accepted).own

pub meshes : (config : Config) → IsAccepted config → FitMeshes config
meshes config accepted = All-weaker (λ (table : MeshTable). Kept config (mesh table)) (IsFitMesh config) (fit_mesh config) config.mesh (kept config accepted).meshes

pub participants : (config : Config) → IsAccepted config → FitParticipants config
participants config accepted = in_participants config (IsFitParticipant config) (λ table keeps. fit_participant config table keeps.own) accepted

pub received_meshes : (config : Config) → IsAccepted config → FitReceived config
received_meshes config accepted =
    in_participants config (λ (table : PartTable). EachAfter (IsFitReceived config table) table.receives)
    (λ table keeps. each_weaker (λ (before : List ReceivesEntry) (entry : ReceivesEntry). Kept config (received table before entry)) (IsFitReceived config table) table.receives (fit_received config table) keeps.receives) accepted

pub written_data : (config : Config) → IsAccepted config → FitWritten config
written_data config accepted =
    in_participants config (λ (table : PartTable). All (IsOnOwnMesh config table) table.write)
    (λ table keeps. All-weaker (λ (entry : DataEntry). Kept config (written table entry)) (IsOnOwnMesh config table) (fit_written config table) table.write keeps.writes) accepted

pub read_data : (config : Config) → IsAccepted config → FitRead config
read_data config accepted =
    in_participants config (λ (table : PartTable). EachAfter (IsFitRead config table) table.read)
    (λ table keeps. each_weaker (λ (before : List DataEntry) (entry : DataEntry). Kept config (read table before entry)) (IsFitRead config table) table.read (fit_read config table) keeps.reads) accepted

pub maps : (config : Config) → IsAccepted config → FitMaps config
maps config accepted =
    in_participants config (λ (table : PartTable). EachAfter (IsFitMap config table) table.map)
    (λ table keeps. each_weaker (λ (before : List MapEntry) (entry : MapEntry). Kept config (mapped table before entry)) (IsFitMap config table) table.map (fit_map config table) keeps.maps) accepted

pub watches : (config : Config) → IsAccepted config → FitWatches config
watches config accepted =
    in_participants config (λ (table : PartTable). All (IsFitWatch config table) table.watch)
    (λ table keeps. All-weaker (λ (entry : WatchEntry). Kept config (watched table entry)) (IsFitWatch config table) (fit_watch config table) table.watch keeps.watches) accepted

pub actions : (config : Config) → IsAccepted config → FitActions config
actions config accepted =
    in_participants config (λ (table : PartTable). EachAfter (IsFitAction config table) table.action)
    (λ table keeps. each_weaker (λ (before : List ActionEntry) (entry : ActionEntry). Kept config (acted table before entry)) (IsFitAction config table) table.action (fit_action config table) keeps.acts) accepted

pub schemes : (config : Config) → IsAccepted config → FitSchemes config
schemes config accepted = each_weaker (KeptScheme config) (IsFitScheme config) config.scheme (fit_scheme config) (kept config accepted).schemes

pub exchanges : (config : Config) → IsAccepted config → FitExchanges config
exchanges config accepted =
    in_schemes config (λ (table : SchemeTable). All (IsFitExchange config table) table.exchange)
    (λ earlier table keeps. All-weaker (λ (entry : ExchangeEntry). Kept config (exchanged table entry)) (IsFitExchange config table) (fit_exchange config table) table.exchange keeps.exchanges) accepted

pub measures : (config : Config) → IsAccepted config → FitMeasures config
measures config accepted =
    in_schemes config (λ (table : SchemeTable). All (IsFitMeasure config table) table.measure)
    (λ earlier table keeps. All-weaker (λ (entry : MeasureEntry). Kept config (measured table entry)) (IsFitMeasure config table) (fit_measure config table) table.measure keeps.measures) accepted

acceleration : (config : Config) (table : SchemeTable) (entry : Option AccelEntry) → IfSome entry (λ there. Kept config (accelerated table there)) → IfSome entry (IsFitAcceleration config table)
acceleration config table None keeps = tt
acceleration config table (Some entry) keeps = fit_acceleration config table entry keeps

pub accelerations : (config : Config) → IsAccepted config → FitAccelerations config
accelerations config accepted =
    in_schemes config (λ (table : SchemeTable). IfSome table.acceleration (IsFitAcceleration config table)) (λ earlier table keeps. acceleration config table table.acceleration keeps.acceleration) accepted

-- what is there, where it is known that something is
pub there : {X : Type 0} (o : Option X) (P : X → Type 0) → is_some o ≡ true → IfSome o P → IsSomeAnd o P
there None P h holds = absurd (cc)
there (Some x) P h holds = holds
