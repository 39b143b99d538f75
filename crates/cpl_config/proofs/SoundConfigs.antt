-- A file whose tables break no rule means a sound configuration.
use Rattle.std.proofs.Common.{◌≡◌, ℕ, ◌<◌, ◌≤◌, List, [], ◌∷◌, ◌++◌, length, get_or, map, flat_map, codes, pos, All, IsTrue, None, refl, sym, ap, ◌∙◌, subst, lit<, arith}
use Rattle.std.specs.List.{AllByRecursion}
use Rattle.std.proofs.lemmas.List.{length-map, map-append}
use Rattle.std.proofs.lemmas.List.Folds.{flat_map-map}
use Rattle.std.proofs.lemmas.Simd.{map-map}
use Rattle.toml.specs.Data.{Members, get_member}
use Rattle.cpl_tables.specs.declared.kinds.TableKind.{TableKind}
use Rattle.cpl_tables.specs.declared.kinds.Format.{Format}
use Rattle.cpl_tables.specs.declared.kinds.Format.TheVariants.{One, Two}
use Rattle.cpl_tables.specs.declared.kinds.TableKind.TheVariants.{Config, Data, Mesh, Participant, Watch, Scheme, Exchange}
use Rattle.cpl_tables.specs.declared.places.Place.{Place}
use Rattle.cpl_tables.specs.declared.shapes.Presence.TheVariants.{Optional}
use Rattle.cpl_tables.specs.declared.shapes.Shape.TheVariants.{Boolean}
use Rattle.cpl_tables.specs.KeyRule.{KeyRule}
use Rattle.cpl_tables.specs.Keys.{keys_of}
use Rattle.cpl_tables.specs.Values.{are_distinct_texts}
use Rattle.cpl_rules.specs.declared.rules.Rule.{Rule}
use Rattle.cpl_rules.specs.declared.rules.Rule.TheVariants.{UnknownKey, MissingKey, WrongType, BadSpelling, BadLength, Repeated}
use Rattle.cpl_rules.specs.Seen.{Seen}
use Rattle.cpl_rules.specs.SeenTables.{tables_under, tables_in, each_with_inner, all_tables, format_of, config_top}
use Rattle.cpl_rules.specs.BrokenRules.{breaks}
use Rattle.cpl_rules.specs.Refused.{refusal_of, IsInOrder}
use Rattle.cpl_rules.proofs.RuleSteps.{refusal-says}
use Rattle.cpl_config.specs.TreeValues.{integer_at, tables_at}
use Rattle.cpl_config.specs.ConfigOf.{data_of, mesh_of, participant_of, watch_of, scheme_of, exchange_of, config_of}
use Rattle.cpl_config.specs.SoundConfig.{IsSoundData, IsSoundMesh, IsSoundParticipant, IsSoundScheme, IsPlain, IsSoundConfig, all_watches, all_exchanges}
use Rattle.cpl_config.proofs.SoundValues.{integer_there, integer_if_there, within_limits}
use Rattle.cpl_config.proofs.SoundRules.{IsKept, each_kept, AreRight, IsRightSeen, all_right}
use Rattle.cpl_config.proofs.SoundTables.{IsRightWithin, all_within, AllUnder, by_keys, under}
use Rattle.cpl_config.proofs.FormatOne.{format_one, plain_window, IsNearest, plain_maps, plain_actions}
use Rattle.cpl_config.proofs.SoundKinds.{participant_at, sound_data, sound_mesh, sound_participant, sound_scheme}
use Rattle.cpl_config.proofs.SoundPicks.{IsPick, passed, pick_at, pick_outer, pick_under, pick_inner, flat_map-flat_map}
use Rattle.cpl_config.proofs.SoundCounts.{few_picked, distinct_picked}

-- what the rules leave of a file's tables
pub record IsChecked (tables : List Seen) : Type 0 where
  pub right : AllByRecursion IsRightSeen tables
  pub few : IsKept (breaks BadLength) [] tables
  pub once : IsKept (breaks Repeated) [] tables

pub checked : (top : Seen) → IsInOrder top → IsChecked (all_tables top)
checked top in_order =
    let kept : (rule : Rule) → IsKept (breaks rule) [] (all_tables top) = λ rule. each_kept (breaks rule) (all_tables top) (in_order rule) in
    record {
      right = all_right [] (all_tables top) (kept UnknownKey) (kept MissingKey) (kept WrongType) (kept BadSpelling) (kept BadLength) (kept Repeated);
      few = kept BadLength;
      once = kept Repeated;
    }

-- stands past the end of a list of keys
pub no_key : KeyRule
no_key = record { name = []; presence = Optional; shape = Boolean }

-- Picks of the whole file's tables

pub pick_of_all : {kind : TableKind} {trees : List Members} (top : Seen) (index : ℕ) → index < length (keys_of top.kind)
    → IsPick kind trees (each_with_inner (tables_under top (get_or (keys_of top.kind) index no_key)))
    → IsPick kind trees (all_tables top)
pick_of_all {kind} {trees} top index within pick =
    passed (subst (λ (tables : List Seen). IsPick kind trees tables)
    (sym (flat_map-flat_map (λ outer. outer ∷ tables_in outer) (tables_under top) (keys_of top.kind)))
    (pick_at (λ key. each_with_inner (tables_under top key)) (keys_of top.kind) index no_key within pick))

-- the keys that both formats have come first
config_key : (format : Format) (index : ℕ) → index < 8 → index < length (keys_of (Config format))
config_key One index within = within
config_key Two index within = omega arith

participant_key : (format : Format) (index : ℕ) → index < 8 → index < length (keys_of (Participant format))
participant_key One index within = within
participant_key Two index within = omega arith

pick_watches : (format : Format) (place : Place) (tree : Members) → IsRightWithin (participant_at format place tree)
    → IsPick Watch (tables_at (codes "watch") tree) (tables_in (participant_at format place tree))
pick_watches format place tree right =
    let seen = participant_at format place tree in
    pick_at (tables_under seen) (keys_of (Participant format)) 7 no_key (participant_key format 7 (lit< tt)) (pick_under seen right.itself.keys.1.1.1.1.1.1.1.0)

pick_exchanges : (place : Place) (tree : Members) → IsRightWithin (record { place = place; kind = Scheme; members = tree })
    → IsPick Exchange (tables_at (codes "exchange") tree) (tables_in (record { place = place; kind = Scheme; members = tree }))
pick_exchanges place tree right =
    let seen : Seen = record { place = place; kind = Scheme; members = tree } in
    pick_at (tables_under seen) (keys_of Scheme) 5 no_key (lit< tt) (pick_under seen right.itself.keys.1.1.1.1.1.0)

-- What is meant by lists of lists

meant_together : {T : Type 0} (meaning : Members → T) (trees_in : Members → List Members) (trees : List Members)
    → flat_map (λ tree. map meaning (trees_in tree)) trees ≡ map meaning (flat_map trees_in trees)
meant_together meaning trees_in [] = refl
meant_together meaning trees_in (tree ∷ trees) =
    ap (λ rest. map meaning (trees_in tree) ++ rest) (meant_together meaning trees_in trees) ∙ sym (map-append meaning (trees_in tree) (flat_map trees_in trees))

all_watches_are : (tree : Members) → all_watches (config_of tree) ≡ map watch_of (flat_map (tables_at (codes "watch")) (tables_at (codes "participant") tree))
all_watches_are tree =
    flat_map-map (λ table. table.watch) participant_of (tables_at (codes "participant") tree)
    ∙ meant_together watch_of (tables_at (codes "watch")) (tables_at (codes "participant") tree)

all_exchanges_are : (tree : Members) → all_exchanges (config_of tree) ≡ map exchange_of (flat_map (tables_at (codes "exchange")) (tables_at (codes "scheme") tree))
all_exchanges_are tree =
    flat_map-map (λ table. table.exchange) scheme_of (tables_at (codes "scheme") tree)
    ∙ meant_together exchange_of (tables_at (codes "exchange")) (tables_at (codes "scheme") tree)

-- a few trees mean a few things, and trees with distinct names things with distinct names
few_meant : {T : Type 0} (meaning : Members → T) (trees : List Members) (things : List T) (most : ℕ) → things ≡ map meaning trees → length trees ≤ most → length things ≤ most
few_meant meaning trees things most are few = rw (are, length-map) few

pub distinct_meant : {T : Type 0} (meaning : Members → T) (name : T → List ℕ) (trees : List Members) (things : List T) → things ≡ map meaning trees
    → IsTrue (are_distinct_texts (map (λ tree. name (meaning tree)) trees)) → IsTrue (are_distinct_texts (map name things))
distinct_meant meaning name trees things are once = rw (are, map-map name meaning trees) once

-- the format of a configuration
abbrev pub format_in : Members → Format
format_in tree = format_of (get_member (codes "format") tree)

-- no rule is broken: what the file means is sound
module _ (tree : Members) (file : IsChecked (all_tables (config_top tree))) where
  the_keys : AreRight (keys_of (Config (format_in tree))) tree
  the_keys = file.right.0.keys

  the_tables : AllUnder IsRightWithin (config_top tree) (keys_of (Config (format_in tree)))
  the_tables = by_keys IsRightWithin (config_top tree) (keys_of (Config (format_in tree))) (all_within (tables_in (config_top tree)) file.right.1)

  watches : IsPick Watch (flat_map (tables_at (codes "watch")) (tables_at (codes "participant") tree)) (all_tables (config_top tree))
  watches = pick_of_all (config_top tree) 6 (config_key (format_in tree) 6 (lit< tt)) (pick_inner (Participant (format_in tree)) Watch (tables_at (codes "watch")) (pick_watches (format_in tree)) (config_top tree) the_keys.1.1.1.1.1.1.0 the_tables.1.1.1.1.1.1.0)

  exchanges : IsPick Exchange (flat_map (tables_at (codes "exchange")) (tables_at (codes "scheme") tree)) (all_tables (config_top tree))
  exchanges = pick_of_all (config_top tree) 7 (config_key (format_in tree) 7 (lit< tt)) (pick_inner Scheme Exchange (tables_at (codes "exchange")) pick_exchanges (config_top tree) the_keys.1.1.1.1.1.1.1.0 the_tables.1.1.1.1.1.1.1.0)

  few_watches : length (all_watches (config_of tree)) ≤ 64
  few_watches = few_meant watch_of _ _ 64 (all_watches_are tree) (few_picked Watch 64 refl refl watches file.few)

  few_exchanges : length (all_exchanges (config_of tree)) ≤ 256
  few_exchanges = few_meant exchange_of _ _ 256 (all_exchanges_are tree) (few_picked Exchange 256 refl refl exchanges file.few)

  watch_once : IsTrue (are_distinct_texts (map (λ entry. entry.name) (all_watches (config_of tree))))
  watch_once = distinct_meant watch_of (λ entry. entry.name) _ _ (all_watches_are tree) (distinct_picked Watch refl (λ _ right. right.keys.0) watches file.once file.right)

  data_once : IsTrue (are_distinct_texts (map (λ table. table.name) (map data_of (tables_at (codes "data") tree))))
  data_once =
      distinct_meant data_of (λ table. table.name) (tables_at (codes "data") tree) _ refl
      (distinct_picked Data refl (λ _ right. right.keys.0) (pick_of_all (config_top tree) 4 (config_key (format_in tree) 4 (lit< tt)) (pick_outer (pick_under (config_top tree) the_keys.1.1.1.1.0))) file.once file.right)

  mesh_once : IsTrue (are_distinct_texts (map (λ table. table.name) (map mesh_of (tables_at (codes "mesh") tree))))
  mesh_once =
      distinct_meant mesh_of (λ table. table.name) (tables_at (codes "mesh") tree) _ refl
      (distinct_picked Mesh refl (λ _ right. right.keys.0) (pick_of_all (config_top tree) 5 (config_key (format_in tree) 5 (lit< tt)) (pick_outer (pick_under (config_top tree) the_keys.1.1.1.1.1.0))) file.once file.right)

  participant_once : IsTrue (are_distinct_texts (map (λ table. table.name) (map participant_of (tables_at (codes "participant") tree))))
  participant_once =
      distinct_meant participant_of (λ table. table.name) (tables_at (codes "participant") tree) _ refl
      (distinct_picked (Participant (format_in tree)) refl (λ _ right. right.keys.0) (pick_of_all (config_top tree) 6 (config_key (format_in tree) 6 (lit< tt)) (pick_outer (pick_under (config_top tree) the_keys.1.1.1.1.1.1.0))) file.once file.right)

  plain_checked : integer_at (codes "format") tree ≡ pos 1 → IsPlain (config_of tree)
  plain_checked is_one =
      let format = format_in tree in
      let one : format ≡ One = format_one (get_member (codes "format") tree) is_one in
      let key = the_keys.1.1.1.1.1.1.0 in
      let tables = the_tables.1.1.1.1.1.1.0 in
      record {
        windows = plain_window format one tree file.right.0.known;
        maps = under (Participant format) IsRightWithin (λ table. All IsNearest table.map) participant_of (plain_maps format one) (config_top tree) key tables;
        actions = under (Participant format) IsRightWithin (λ table. table.action ≡ []) participant_of (plain_actions format one) (config_top tree) key tables;
      }

  sound_checked : IsSoundConfig (config_of tree)
  sound_checked =
      let lists = the_keys.1.1.1.1 in
      let tables = the_tables.1.1.1.1 in
      record {
        format = integer_there the_keys.0;
        plain = plain_checked;
        window = integer_there the_keys.1.0;
        max_time = integer_if_there the_keys.1.1.0;
        max_windows = integer_if_there the_keys.1.1.1.0;
        data_tables = under Data IsRightWithin IsSoundData data_of (λ _ inner right. sound_data inner right.itself) (config_top tree) lists.0 tables.0;
        few_data = (within_limits data_of lists.0).1;
        data_once = data_once;
        meshes = under Mesh IsRightWithin IsSoundMesh mesh_of (λ _ inner right. sound_mesh inner right.itself) (config_top tree) lists.1.0 tables.1.0;
        few_meshes = (within_limits mesh_of lists.1.0).1;
        mesh_once = mesh_once;
        participants = under (Participant (format_in tree)) IsRightWithin IsSoundParticipant participant_of (sound_participant (format_in tree)) (config_top tree) lists.1.1.0 tables.1.1.0;
        a_participant = (within_limits participant_of lists.1.1.0).0;
        few_participants = (within_limits participant_of lists.1.1.0).1;
        participant_once = participant_once;
        schemes = under Scheme IsRightWithin IsSoundScheme scheme_of sound_scheme (config_top tree) lists.1.1.1.0 tables.1.1.1.0;
        a_scheme = (within_limits scheme_of lists.1.1.1.0).0;
        few_schemes = (within_limits scheme_of lists.1.1.1.0).1;
        few_watches = few_watches;
        watch_once = watch_once;
        few_exchanges = few_exchanges;
      }

-- a file whose tables break no rule means a sound configuration
pub sound_in_order : (tree : Members) → IsInOrder (config_top tree) → IsSoundConfig (config_of tree)
sound_in_order tree in_order = sound_checked tree (checked (config_top tree) in_order)

-- so does one that is not refused for a rule on its tables
pub sound_config : (tree : Members) → refusal_of (config_top tree) ≡ None → IsSoundConfig (config_of tree)
sound_config tree unrefused = sound_in_order tree (refusal-says (config_top tree) None (sym unrefused)).1
