-- Where a table of a configuration or of a case file stands. The project's own.
use Rattle.std.specs.Prelude.{ℕ, ◌+◌, ◌-◌, ◌^◌, min}
use Rattle.cpl_tables.specs.declared.kinds.TableKind.{TableKind}
use Rattle.cpl_tables.specs.declared.kinds.TableKind.TheVariants.{Data, Mesh, Participant, Receives as ReceivesKind, Write as WriteKind, Read as ReadKind, Map as MapKind, Watch as WatchKind, Action as ActionKind, Scheme as SchemeKind, Exchange as ExchangeKind, Measure as MeasureKind, Acceleration as AccelerationKind}
use Rattle.cpl_tables.specs.declared.places.Place.{Place}
use Rattle.cpl_tables.specs.declared.places.Place.TheVariants.{Config, DataTable, MeshTable, Participant as ParticipantPlace, Receives, Write, Read, Map, Watch, Action, Scheme, Exchange, Measure, Acceleration}

-- in the configuration's own table
abbrev pub in_config : TableKind → ℕ → Place
in_config Data n = DataTable n
in_config Mesh n = MeshTable n
in_config (Participant _) n = ParticipantPlace n
in_config SchemeKind n = Scheme n
in_config _ _ = Config

-- in a participant's table
abbrev pub in_participant : ℕ → TableKind → ℕ → Place
in_participant p ReceivesKind n = Receives p n
in_participant p WriteKind n = Write p n
in_participant p ReadKind n = Read p n
in_participant p (MapKind _) n = Map p n
in_participant p WatchKind n = Watch p n
in_participant p ActionKind n = Action p n
in_participant p _ _ = ParticipantPlace p

-- in a scheme's table
abbrev pub in_scheme : ℕ → TableKind → ℕ → Place
in_scheme s ExchangeKind n = Exchange s n
in_scheme s MeasureKind n = Measure s n
in_scheme s AccelerationKind n = Acceleration s
in_scheme s _ _ = Scheme s

-- the place of a table of this kind, with this number among its kind, in the table at this place; all tables of a case file have one place
abbrev pub place_in : Place → TableKind → ℕ → Place
place_in Config kind n = in_config kind n
place_in (ParticipantPlace p) kind n = in_participant p kind n
place_in (Scheme s) kind n = in_scheme s kind n
place_in place _ _ = place

-- the number, from 1, of the item at an index, from 0; the greatest of 32 bits stands for all beyond it
abbrev pub number_at : ℕ → ℕ
number_at index = min (index + 1) (2 ^ 32 - 1)
