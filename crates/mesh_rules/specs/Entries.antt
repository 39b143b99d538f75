-- The entries of a configuration in the order of their places. The project's own.
use Rattle.std.specs.Prelude.{ℕ, List, [], ◌∷◌, ◌++◌, length, Option, Some, None}
use Rattle.cpl_tables.specs.declared.places.Place.{Place}
use Rattle.cpl_tables.specs.declared.places.Place.TheVariants as P
use Rattle.cpl_tables.specs.Places.{number_at}
use Rattle.cpl_config.specs.declared.config.Config.{Config}
use Rattle.cpl_config.specs.declared.config.DataTable.{DataTable}
use Rattle.cpl_config.specs.declared.config.MeshTable.{MeshTable}
use Rattle.cpl_config.specs.declared.config.PartTable.{PartTable}
use Rattle.cpl_config.specs.declared.config.ReceivesEntry.{ReceivesEntry}
use Rattle.cpl_config.specs.declared.config.DataEntry.{DataEntry}
use Rattle.cpl_config.specs.declared.config.MapEntry.{MapEntry}
use Rattle.cpl_config.specs.declared.config.WatchEntry.{WatchEntry}
use Rattle.cpl_config.specs.declared.config.ActionEntry.{ActionEntry}
use Rattle.cpl_config.specs.declared.config.SchemeTable.{SchemeTable}
use Rattle.cpl_config.specs.declared.config.ExchangeEntry.{ExchangeEntry}
use Rattle.cpl_config.specs.declared.config.MeasureEntry.{MeasureEntry}
use Rattle.cpl_config.specs.declared.config.AccelEntry.{AccelEntry}

-- what stands at a place: a table, with the one that holds it, and those of its list that stand before it
pub data Held : Type 0 where
  whole : Held
  datum : DataTable → Held
  mesh : MeshTable → Held
  participant : PartTable → Held
  received : PartTable → List ReceivesEntry → ReceivesEntry → Held
  written : PartTable → DataEntry → Held
  read : PartTable → List DataEntry → DataEntry → Held
  mapped : PartTable → List MapEntry → MapEntry → Held
  watched : PartTable → WatchEntry → Held
  acted : PartTable → List ActionEntry → ActionEntry → Held
  scheme : List SchemeTable → SchemeTable → Held
  exchanged : SchemeTable → ExchangeEntry → Held
  measured : SchemeTable → MeasureEntry → Held
  accelerated : SchemeTable → AccelEntry → Held

pub record Entry : Type 0 where
  pub place : Place
  pub held : Held

abbrev pub at : Place → Held → List Entry
at place held = record { place = place; held = held } ∷ []

-- what is made of each item of a list, from its number, from 1, the items before it, and itself
abbrev pub each_after : {X : Type 0} → (ℕ → List X → X → List Entry) → List X → List X → List Entry
each_after make before [] = []
each_after make before (x ∷ xs) = make (number_at (length before)) before x ++ each_after make (before ++ x ∷ []) xs

abbrev pub each : {X : Type 0} → (ℕ → List X → X → List Entry) → List X → List Entry
each make xs = each_after make [] xs

-- the entries of each list of a participant's table, whose number is given
abbrev pub received_entries : ℕ → PartTable → List Entry
received_entries p table = each (λ n before entry. at (P.Receives p n) (received table before entry)) table.receives

abbrev pub written_entries : ℕ → PartTable → List Entry
written_entries p table = each (λ n before entry. at (P.Write p n) (written table entry)) table.write

abbrev pub read_entries : ℕ → PartTable → List Entry
read_entries p table = each (λ n before entry. at (P.Read p n) (read table before entry)) table.read

abbrev pub mapped_entries : ℕ → PartTable → List Entry
mapped_entries p table = each (λ n before entry. at (P.Map p n) (mapped table before entry)) table.map

abbrev pub watched_entries : ℕ → PartTable → List Entry
watched_entries p table = each (λ n before entry. at (P.Watch p n) (watched table entry)) table.watch

abbrev pub acted_entries : ℕ → PartTable → List Entry
acted_entries p table = each (λ n before entry. at (P.Action p n) (acted table before entry)) table.action

-- a participant's table, and the entries in it
abbrev pub entries_of_participant : ℕ → PartTable → List Entry
entries_of_participant p table =
    at (P.Participant p) (participant table)
    ++ received_entries p table
    ++ written_entries p table
    ++ read_entries p table
    ++ mapped_entries p table
    ++ watched_entries p table
    ++ acted_entries p table

-- the entries of each list of a scheme's table
abbrev pub exchanged_entries : ℕ → SchemeTable → List Entry
exchanged_entries s table = each (λ n before entry. at (P.Exchange s n) (exchanged table entry)) table.exchange

abbrev pub measured_entries : ℕ → SchemeTable → List Entry
measured_entries s table = each (λ n before entry. at (P.Measure s n) (measured table entry)) table.measure

abbrev pub accelerated_entries : ℕ → SchemeTable → Option AccelEntry → List Entry
accelerated_entries s table (Some entry) = at (P.Acceleration s) (accelerated table entry)
accelerated_entries s table None = []

-- a scheme's table, and the entries in it
abbrev pub entries_of_scheme : ℕ → List SchemeTable → SchemeTable → List Entry
entries_of_scheme s earlier table =
    at (P.Scheme s) (scheme earlier table)
    ++ exchanged_entries s table
    ++ measured_entries s table
    ++ accelerated_entries s table table.acceleration

-- the entries of each list of a configuration's own table, each with the entries in it
abbrev pub data_entries : Config → List Entry
data_entries config = each (λ n before table. at (P.DataTable n) (datum table)) config.data_list

abbrev pub mesh_entries : Config → List Entry
mesh_entries config = each (λ n before table. at (P.MeshTable n) (mesh table)) config.mesh

abbrev pub participant_entries : Config → List Entry
participant_entries config = each (λ n before table. entries_of_participant n table) config.participant

abbrev pub scheme_entries : Config → List Entry
scheme_entries config = each entries_of_scheme config.scheme

-- all entries of a configuration
abbrev pub entries_of : Config → List Entry
entries_of config =
    at P.Config whole
    ++ data_entries config
    ++ mesh_entries config
    ++ participant_entries config
    ++ scheme_entries config
