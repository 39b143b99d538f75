-- What is known of the schemes of a configuration by three of its rules: members are declared and there are some, and no participant is in two implicit schemes.
use Rattle.std.proofs.Common.{◌≡◌, ℕ, ◌<◌, ◌≤◌, Bool, true, false, List, [], ◌++◌, length, Option, Some, All, refl, ap, arith}
use Rattle.std.specs.Prelude.{AllPairs, unwrap_or}
use Rattle.std.proofs.lemmas.List.{length-append}
use Rattle.cpl_tables.specs.declared.places.Place.{Place}
use Rattle.cpl_rules.specs.FirstBroken.{IsUnbroken}
use Rattle.cpl_config.specs.declared.config.Config.{Config}
use Rattle.cpl_config.specs.declared.config.SchemeTable.{SchemeTable}
use Rattle.mesh_rules.specs.Entries.{Held, scheme, Entry, entries_of}
use Rattle.mesh_rules.specs.Named.{is_participant}
use Rattle.config_rules.specs.Members.{is_implicit, is_multi, name_there, members}
use Rattle.config_rules.specs.declared.rules.ConfigRule.{ConfigRule}
use Rattle.config_rules.specs.declared.rules.ConfigRule.TheVariants.{Undeclared, WrongMembers, TwoImplicit}
use Rattle.config_rules.specs.ConfigRules.{breaks}
use Rattle.config_laws.specs.Placed.{EachAfter}
use Rattle.config_laws.specs.FitSchemes.{HasTwo, HasMany, ShareNone}
use Rattle.config_laws.proofs.EntriesOf.{InScheme, InConfig, parts_of}
use Rattle.config_laws.proofs.Pairs.{pairs_after}
use Rattle.config_laws.proofs.SchemeFacts.{members_declared, two_told, many_told, one_group}
use Rattle.config_laws.proofs.Splits.{at_splits, each_weaker, each_all}

abbrev pub Declared : Config → SchemeTable → Type 0
Declared config table = All (λ name. is_participant config name ≡ true) (members table)

pub record KnownSchemes (config : Config) : Type 0 where
  pub declared : All (Declared config) config.scheme
  pub some : All (λ table. 0 < length (members table)) config.scheme
  pub apart : AllPairs (λ one other. is_implicit one ≡ true → is_implicit other ≡ true → ShareNone other one) config.scheme

has_some : (table : SchemeTable) → (is_multi table ≡ false → HasTwo table) → (is_multi table ≡ true → HasMany table) → 0 < length (members table)
has_some table two many = by_kind (is_multi table) refl
  where
    two_listed : (first second : Option (List ℕ)) (one other : List ℕ) (rest : List (List ℕ)) → first ≡ Some one → second ≡ Some other → 0 < length (name_there first ++ name_there second ++ rest)
    two_listed first second one other rest is_first is_second =
        let n : ℕ = length (name_there first) in
        let is : length (name_there first) ≡ 1 = ap (λ (o : Option (List ℕ)). length (name_there o)) is_first in
        omega (arith, is, length-append (name_there first ++ name_there second) rest, length-append (name_there first) (name_there second))

    many_listed : (front names : List (List ℕ)) (listed : Option (List (List ℕ))) → listed ≡ Some names → 2 ≤ length names → 0 < length (front ++ unwrap_or listed [])
    many_listed front names listed is count =
        let same : length (unwrap_or listed []) ≡ length names = ap (λ (o : Option (List (List ℕ))). length (unwrap_or o [])) is in
        omega (arith, same, count, length-append front (unwrap_or listed []))

    by_kind : (b : Bool) → is_multi table ≡ b → 0 < length (members table)
    by_kind true is = let has = many is in many_listed (name_there table.first ++ name_there table.second) has.names table.members has.names_told has.two_or_more
    by_kind false is = let has = two is in two_listed table.first table.second has.first has.second (unwrap_or table.members []) has.first_told has.second_told

-- a scheme's table keeps the rule
KeepsRule : Config → ConfigRule → List SchemeTable → SchemeTable → Type 0
KeepsRule config rule earlier table = (place : Place) × (before : List Entry) × (breaks config rule before (record { place = place; held = scheme earlier table }) ≡ false)

-- each does, where no entry breaks it
schemes_keep : (config : Config) (rule : ConfigRule) → IsUnbroken (breaks config rule) (entries_of config) → EachAfter (KeepsRule config rule) config.scheme
unfolding KeepsRule
schemes_keep config rule unbroken =
    let Keeps : Held → Type 0 = λ held. (place : Place) × (before : List Entry) × (breaks config rule before (record { place = place; held = held }) ≡ false) in
    let parts : InConfig Keeps config = parts_of Keeps config (at_splits (λ (entry : Entry). Keeps entry.held) (entries_of config) (λ before entry after is. (entry.place, before, unbroken before entry after is))) in
    each_weaker (InScheme Keeps) (KeepsRule config rule) config.scheme (λ earlier table inside. inside.own) parts.schemes

pub known_schemes : (config : Config) → IsUnbroken (breaks config Undeclared) (entries_of config) → IsUnbroken (breaks config WrongMembers) (entries_of config)
    → IsUnbroken (breaks config TwoImplicit) (entries_of config) → KnownSchemes config
unfolding KeepsRule
known_schemes config named told grouped = record {
  declared = each_all (Declared config) config.scheme
      (each_weaker (KeepsRule config Undeclared) (λ (earlier : List SchemeTable) (table : SchemeTable). Declared config table) config.scheme (λ earlier table keeps. members_declared config table keeps.2) (schemes_keep config Undeclared named));
  some = each_all (λ (table : SchemeTable). 0 < length (members table)) config.scheme
      (each_weaker (KeepsRule config WrongMembers) (λ (earlier : List SchemeTable) (table : SchemeTable). 0 < length (members table)) config.scheme
      (λ earlier table keeps. has_some table (two_told table keeps.2) (many_told table keeps.2)) (schemes_keep config WrongMembers told));
  apart = pairs_after (λ (one other : SchemeTable). is_implicit one ≡ true → is_implicit other ≡ true → ShareNone other one) config.scheme
      (λ earlier table after is k d within one_is other_is. one_group table earlier (schemes_keep config TwoImplicit grouped earlier table after is).2 other_is k d within one_is);
}
