-- What each kind of table means is sound, where the table is right.
use Rattle.std.proofs.Common.{◌≡◌, ◌≤◌, List, [], map, length, codes, All, Option, Some, None, pos, refl, zero-le}
use Rattle.std.specs.Option.{option_map_or}
use Rattle.std.proofs.lemmas.List.Elements.{All-nil}
use Rattle.toml.specs.Data.{Data as Value, Members, get_member}
use Rattle.cpl_tables.specs.declared.kinds.Format.{Format}
use Rattle.cpl_tables.specs.declared.kinds.Format.TheVariants.{One, Two}
use Rattle.cpl_tables.specs.declared.kinds.TableKind.TheVariants.{Data, Mesh, Participant, Receives, Write, Read, Map, Watch, Action, Scheme, Exchange, Measure, Acceleration}
use Rattle.cpl_tables.specs.Keys.{keys_of}
use Rattle.cpl_tables.specs.declared.places.Place.{Place}
use Rattle.cpl_rules.specs.Seen.{Seen}
use Rattle.cpl_tables.specs.Values.{list_of}
use Rattle.cpl_config.specs.declared.config.ActionEntry.{ActionEntry}
use Rattle.cpl_config.specs.TreeValues.{members_of, tables_at}
use Rattle.cpl_config.specs.ConfigOf.{data_of, mesh_of, receives_of, data_entry_of, map_of, watch_of, action_of, participant_of, exchange_of, measure_of, acceleration_of, scheme_of}
use Rattle.cpl_config.specs.SoundConfig.{IsSoundData, IsSoundMesh, IsSoundReceives, IsSoundDataEntry, IsSoundMap, IsSoundWatch, IsSoundAction, IsSoundParticipant, IsSoundExchange, IsSoundMeasure, IsSoundAcceleration, IsSoundScheme}
use Rattle.cpl_config.proofs.SoundValues.{name_there, name_if, text_there, integer_there, integer_or_default, integer_if_there, number_there, numbers_there, names_there, names_if, few_names, few}
use Rattle.cpl_config.proofs.SoundRules.{IsRightTable, IsRightSeen}
use Rattle.cpl_config.proofs.KnownKeys.{not_there}
use Rattle.cpl_config.proofs.SoundTables.{by_keys, IsRightWithin, under, one_under}

pub sound_data : (tree : Members) → IsRightTable Data tree → IsSoundData (data_of tree)
sound_data tree right = let keys = right.keys in record { name = name_there keys.0; degree = integer_or_default (pos 1) refl keys.1.1.0 }

pub sound_mesh : (tree : Members) → IsRightTable Mesh tree → IsSoundMesh (mesh_of tree)
sound_mesh tree right = let keys = right.keys in record { name = name_there keys.0; dimensions = integer_there keys.1.0; data_names = names_there keys.1.1.0 }

sound_receives : (tree : Members) → IsRightTable Receives tree → IsSoundReceives (receives_of tree)
sound_receives tree right = record { mesh = name_there right.keys.0; from = name_there right.keys.1.0 }

sound_write : (tree : Members) → IsRightTable Write tree → IsSoundDataEntry (data_entry_of tree)
sound_write tree right = record { data_name = name_there right.keys.0; mesh = name_there right.keys.1.0 }

sound_read : (tree : Members) → IsRightTable Read tree → IsSoundDataEntry (data_entry_of tree)
sound_read tree right = record { data_name = name_there right.keys.0; mesh = name_there right.keys.1.0 }

sound_map : (format : Format) (tree : Members) → IsRightTable (Map format) tree → IsSoundMap (map_of tree)
sound_map format tree right = record { from = name_there right.keys.1.0; to = name_there right.keys.1.1.0 }

sound_watch : (tree : Members) → IsRightTable Watch tree → IsSoundWatch (watch_of tree)
sound_watch tree right = let keys = right.keys in record { name = name_there keys.0; mesh = name_there keys.1.0; coordinates = numbers_there keys.1.1.0 }

sound_action : (tree : Members) → IsRightTable Action tree → IsSoundAction (action_of tree)
sound_action tree right =
    let keys = right.keys in
    record { mesh = name_there keys.1.0; sources = names_there keys.1.1.0; few_sources = few_names keys.1.1.0; target = name_there keys.1.1.1.0 }

sound_exchange : (tree : Members) → IsRightTable Exchange tree → IsSoundExchange (exchange_of tree)
sound_exchange tree right =
    let keys = right.keys in
    record { data_name = name_there keys.0; mesh = name_there keys.1.0; from = name_there keys.1.1.0; to = name_there keys.1.1.1.0 }

sound_measure : (tree : Members) → IsRightTable Measure tree → IsSoundMeasure (measure_of tree)
sound_measure tree right = record { data_name = name_there right.keys.1.0; limit = number_there right.keys.1.1.0 }

sound_acceleration : (tree : Members) → IsRightTable Acceleration tree → IsSoundAcceleration (acceleration_of tree)
sound_acceleration tree right = record { factor = number_there right.keys.1.0; data_names = names_there right.keys.1.1.0 }

-- Tables with tables in them

-- a participant's own table
abbrev pub participant_at : Format → Place → Members → Seen
participant_at format place tree = record { place = place; kind = Participant format; members = tree }

abbrev AreSoundActions : List ActionEntry → Type 0
AreSoundActions actions = All IsSoundAction actions × (length actions ≤ 64)

no_actions : (value : Option Value) → value ≡ None → AreSoundActions (map action_of (map members_of (option_map_or list_of value [])))
no_actions None absent = (All-nil IsSoundAction, zero-le)
no_actions (Some value) absent = absurd (cc)

-- in format 1 there are none, since their key is not listed
sound_actions : (format : Format) (place : Place) (tree : Members) → IsRightWithin (participant_at format place tree) → AreSoundActions (map action_of (tables_at (codes "action") tree))
sound_actions One place tree right = no_actions (get_member (codes "action") tree) (not_there (Participant One) (codes "action") refl tree right.itself.known)
sound_actions Two place tree right =
    let seen = participant_at Two place tree in
    let key = right.itself.keys.1.1.1.1.1.1.1.1.0 in
    let inside = (by_keys IsRightSeen seen (keys_of (Participant Two)) right.inner).1.1.1.1.1.1.1.1.0 in
    (under Action IsRightSeen IsSoundAction action_of (λ _. sound_action) seen key inside, few action_of key)

pub sound_participant : (format : Format) (place : Place) (tree : Members) → IsRightWithin (participant_at format place tree) → IsSoundParticipant (participant_of tree)
sound_participant format place tree right =
    let seen = participant_at format place tree in
    let keys = right.itself.keys in
    let inner = by_keys IsRightSeen seen (keys_of (Participant format)) right.inner in
    let actions = sound_actions format place tree right in
    let behind = keys.1.1.1 in
    let inside = inner.1.1.1 in
    record {
      name = name_there keys.0;
      case_text = text_there keys.1.0;
      provides = names_there keys.1.1.0;
      receives = under Receives IsRightSeen IsSoundReceives receives_of (λ _. sound_receives) seen behind.0 inside.0;
      few_receives = few receives_of behind.0;
      writes = under Write IsRightSeen IsSoundDataEntry data_entry_of (λ _. sound_write) seen behind.1.0 inside.1.0;
      few_writes = few data_entry_of behind.1.0;
      reads = under Read IsRightSeen IsSoundDataEntry data_entry_of (λ _. sound_read) seen behind.1.1.0 inside.1.1.0;
      few_reads = few data_entry_of behind.1.1.0;
      maps = under (Map format) IsRightSeen IsSoundMap map_of (λ _. sound_map format) seen behind.1.1.1.0 inside.1.1.1.0;
      few_maps = few map_of behind.1.1.1.0;
      watches = under Watch IsRightSeen IsSoundWatch watch_of (λ _. sound_watch) seen behind.1.1.1.1.0 inside.1.1.1.1.0;
      actions = actions.0;
      few_actions = actions.1;
    }

pub sound_scheme : (place : Place) (tree : Members) → IsRightWithin (record { place = place; kind = Scheme; members = tree }) → IsSoundScheme (scheme_of tree)
sound_scheme place tree right =
    let seen : Seen = record { place = place; kind = Scheme; members = tree } in
    let keys = right.itself.keys in
    let inner = by_keys IsRightSeen seen (keys_of Scheme) right.inner in
    let behind = keys.1.1.1.1.1 in
    let inside = inner.1.1.1.1.1 in
    record {
      first = name_if keys.1.0;
      second = name_if keys.1.1.0;
      control = name_if keys.1.1.1.0;
      members = names_if keys.1.1.1.1.0;
      exchanges = under Exchange IsRightSeen IsSoundExchange exchange_of (λ _. sound_exchange) seen behind.0 inside.0;
      greatest = integer_if_there behind.1.0;
      least = integer_if_there behind.1.1.0;
      measures = under Measure IsRightSeen IsSoundMeasure measure_of (λ _. sound_measure) seen behind.1.1.1.0 inside.1.1.1.0;
      few_measures = few measure_of behind.1.1.1.0;
      acceleration = one_under Acceleration IsRightSeen IsSoundAcceleration acceleration_of (λ _. sound_acceleration) seen behind.1.1.1.1.0 inside.1.1.1.1.0;
    }
