-- In format 1 the keys of format 2 are not listed, so what they say has its default.
use Rattle.std.proofs.Common.{◌≡◌, [], map, not, codes, All, IsFalse, Option, Some, None, pos, refl, ap}
use Rattle.std.specs.List.{list_any}
use Rattle.std.specs.Option.{option_map_or}
use Rattle.toml.specs.Data.{Data, integer, Members, get_member}
use Rattle.cpl_tables.specs.declared.kinds.Format.{Format}
use Rattle.cpl_tables.specs.declared.kinds.Format.TheVariants.{One, Two}
use Rattle.cpl_tables.specs.declared.kinds.TableKind.TheVariants.{Config, Participant, Map}
use Rattle.cpl_tables.specs.declared.places.Place.{Place}
use Rattle.cpl_tables.specs.Keys.{keys_of}
use Rattle.cpl_tables.specs.Values.{text_of, list_of}
use Rattle.cpl_rules.specs.SeenTables.{format_of}
use Rattle.cpl_rules.specs.BrokenRules.{names_in, is_listed}
use Rattle.cpl_config.specs.declared.config.MapEntry.{MapEntry}
use Rattle.cpl_config.specs.declared.kind_words.MapWord.TheVariants.{NearestNeighbor}
use Rattle.cpl_config.specs.declared.kind_words.WindowWord.TheVariants.{Fixed}
use Rattle.cpl_config.specs.TreeValues.{integer_of, members_of, text_at, tables_at}
use Rattle.cpl_config.specs.ConfigOf.{window_method_of, map_method_of, map_of, action_of}
use Rattle.cpl_config.proofs.KnownKeys.{not_there}
use Rattle.cpl_config.proofs.SoundRules.{IsRightTable, IsRightSeen}
use Rattle.cpl_config.proofs.SoundTables.{IsRightWithin, by_keys, under}
use Rattle.cpl_config.proofs.SoundKinds.{participant_at}

pub format_one : (value : Option Data) → option_map_or integer_of value (pos 0) ≡ pos 1 → format_of value ≡ One
format_one None is_one = refl
format_one (Some (integer number)) is_one = rw is_one refl
format_one (Some _) is_one = refl

no_text : (value : Option Data) → value ≡ None → option_map_or text_of value [] ≡ []
no_text None absent = refl
no_text (Some value) absent = absurd (cc)

no_tables : (value : Option Data) → value ≡ None → map action_of (map members_of (option_map_or list_of value [])) ≡ []
no_tables None absent = refl
no_tables (Some value) absent = absurd (cc)

pub plain_window : (format : Format) → format ≡ One → (tree : Members) → IsFalse (list_any (λ name. not (is_listed (Config format) name)) (names_in tree))
    → window_method_of (text_at (codes "window-method") tree) ≡ Fixed
plain_window One is tree known = ap window_method_of (no_text (get_member (codes "window-method") tree) (not_there (Config One) (codes "window-method") refl tree known))
plain_window Two is tree known = absurd (cc)

abbrev pub IsNearest : MapEntry → Type 0
IsNearest entry = entry.method ≡ NearestNeighbor

plain_map : (tree : Members) → IsRightTable (Map One) tree → IsNearest (map_of tree)
plain_map tree right = ap map_method_of (no_text (get_member (codes "method") tree) (not_there (Map One) (codes "method") refl tree right.known))

pub plain_maps : (format : Format) → format ≡ One → (place : Place) (tree : Members) → IsRightWithin (participant_at format place tree)
    → All IsNearest (map map_of (tables_at (codes "map") tree))
plain_maps One is place tree right =
    let seen = participant_at One place tree in
    let inside = (by_keys IsRightSeen seen (keys_of (Participant One)) right.inner).1.1.1.1.1.1.0 in
    under (Map One) IsRightSeen IsNearest map_of (λ _. plain_map) seen right.itself.keys.1.1.1.1.1.1.0 inside
plain_maps Two is place tree right = absurd (cc)

pub plain_actions : (format : Format) → format ≡ One → (place : Place) (tree : Members) → IsRightWithin (participant_at format place tree)
    → map action_of (tables_at (codes "action") tree) ≡ []
plain_actions One is place tree right = no_tables (get_member (codes "action") tree) (not_there (Participant One) (codes "action") refl tree right.itself.known)
plain_actions Two is place tree right = absurd (cc)
