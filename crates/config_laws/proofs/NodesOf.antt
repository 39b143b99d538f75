-- The nodes of an accepted configuration by numbers: groups are apart, and a cycle of nodes is one of steps.
use Rattle.std.proofs.Common.{◌≡◌, ℕ, ◌<◌, inl, inr, true, false, List, [], length, get_or, All, Contains, refl, ap, sym, subst, ◌∙◌, arith}
use Rattle.std.specs.Prelude.{AllPairs, filter, slice_index_or}
use Rattle.std.specs.Str.{bytes_eq}
use Rattle.std.proofs.lemmas.Bool.{cases_lt, cases_eq}
use Rattle.std.proofs.lemmas.List.{get_or-map, length-map}
use Rattle.std.proofs.lemmas.List.Elements.{All-weaker, All-map, All-filter, All-contains}
use Rattle.cpl_config.specs.declared.config.Config.{Config}
use Rattle.cpl_config.specs.declared.config.SchemeTable.{SchemeTable}
use Rattle.plan_order.specs.Groups.{AreGroups}
use Rattle.plan_order.proofs.Named.{from_map}
use Rattle.mesh_rules.specs.Named.{is_among, is_participant}
use Rattle.config_rules.specs.Members.{is_implicit, members, is_member}
use Rattle.config_rules.specs.Circles.{number_of}
use Rattle.config_laws.specs.FitSchemes.{ShareNone}
use Rattle.config_laws.specs.Numbered.{numbers_in, groups_in}
use Rattle.config_laws.proofs.Members.{any_at, from_filter}
use Rattle.config_laws.proofs.Numbers.{numbered, same_name}
use Rattle.config_laws.proofs.Pairs.{pairs_kept, item_at, place_within}
use Rattle.config_laws.proofs.Truths.{text_same}
use Rattle.config_laws.proofs.KnownSchemes.{Declared, KnownSchemes}

-- two implicit schemes share no participant
apart : (config : Config) → KnownSchemes config → AllPairs (λ one other. ShareNone other one) (filter is_implicit config.scheme)
apart config known = pairs_kept is_implicit (λ (one other : SchemeTable). ShareNone other one) config.scheme known.apart

-- groups

filled : (config : Config) → KnownSchemes config → All (λ group. 0 < length group) (groups_in config)
filled config known =
    All-map (λ (group : List ℕ). 0 < length group) (numbers_in config) (filter is_implicit config.scheme)
    (All-filter is_implicit (λ (table : SchemeTable). 0 < length (numbers_in config table)) config.scheme
    (All-weaker (λ (table : SchemeTable). 0 < length (members table)) (λ (table : SchemeTable). 0 < length (numbers_in config table)) (λ table some. omega (arith, some, length-map (members table) (number_of config))) config.scheme known.some))

numbers_within : (config : Config) (table : SchemeTable) → Declared config table → All (λ part. part < length config.participant) (numbers_in config table)
numbers_within config table declared =
    All-map (λ (part : ℕ). part < length config.participant) (number_of config) (members table)
    (All-weaker (λ (name : List ℕ). is_participant config name ≡ true) (λ (name : List ℕ). number_of config name < length config.participant) (λ name there. (numbered config name there).within) (members table) declared)

in_range : (config : Config) → KnownSchemes config → All (λ group. All (λ part. part < length config.participant) group) (groups_in config)
in_range config known =
    All-map (λ (group : List ℕ). All (λ part. part < length config.participant) group) (numbers_in config) (filter is_implicit config.scheme)
    (All-filter is_implicit (λ (table : SchemeTable). All (λ part. part < length config.participant) (numbers_in config table)) config.scheme
    (All-weaker (Declared config) (λ (table : SchemeTable). All (λ part. part < length config.participant) (numbers_in config table)) (numbers_within config) config.scheme known.declared))

-- a name of an implicit scheme, whose number is in the group at a place
pub record IsInGroup (config : Config) (g part : ℕ) : Type 0 where
  pub within : g < length (filter is_implicit config.scheme)
  pub table : SchemeTable
  pub at : (d : SchemeTable) → get_or (filter is_implicit config.scheme) g d ≡ table
  pub group : slice_index_or (groups_in config) g [] ≡ numbers_in config table
  pub listed : Contains config.scheme table
  pub implicit : is_implicit table ≡ true
  pub name : List ℕ
  pub member : Contains (members table) name
  pub declared : is_participant config name ≡ true
  pub number : number_of config name ≡ part

pub in_group : (config : Config) → KnownSchemes config → (g part : ℕ) → Contains (slice_index_or (groups_in config) g []) part → IsInGroup config g part
in_group config known g part inside =
    let kept : List SchemeTable = filter is_implicit config.scheme in
    let within : g < length kept = omega (arith, place_within (groups_in config) g part inside, length-map kept (numbers_in config)) in
    let item = item_at kept g within in
    let group : slice_index_or (groups_in config) g [] ≡ numbers_in config item.0 = get_or-map (numbers_in config) kept g item.0 [] within ∙ ap (numbers_in config) (item.1 item.0) in
    let named = from_map (number_of config) (members item.0) part (subst (λ (xs : List ℕ). Contains xs part) group inside) in
    let there : Contains kept item.0 = (g, within, item.1 item.0) in
    let of_scheme = from_filter is_implicit config.scheme item.0 there in
    record {
      within = within;
      table = item.0;
      at = item.1;
      group = group;
      listed = of_scheme.0;
      implicit = of_scheme.1;
      name = named.0;
      member = named.1;
      declared = All-contains (λ (name : List ℕ). is_participant config name ≡ true) (members item.0) named.0 (All-contains (Declared config) config.scheme item.0 known.declared of_scheme.0) named.1;
      number = named.2;
    }

pub member_is : (name : List ℕ) (names : List (List ℕ)) → Contains names name → is_among name names ≡ true
member_is name names inside = any_at (bytes_eq name) names name inside (text_same name name refl)

-- a number is in no two groups
no_two : (config : Config) (known : KnownSchemes config) (g h part : ℕ) → g < h → IsInGroup config g part → IsInGroup config h part → ⊥
no_two config known g h part less one other =
    let none : ShareNone other.table one.table =
    subst (λ (t : SchemeTable). ShareNone t one.table) (other.at other.table) (subst (λ (t : SchemeTable). ShareNone (get_or (filter is_implicit config.scheme) h other.table) t) (one.at other.table) (apart config known g h other.table less other.within)) in
    let same : one.name ≡ other.name = same_name config one.name other.name one.declared other.declared (one.number ∙ sym other.number) in
    let is : is_member other.name one.table ≡ true = member_is other.name (members one.table) (subst (λ (name : List ℕ). Contains (members one.table) name) same one.member) in
    let is_not : is_member other.name one.table ≡ false = All-contains (λ (name : List ℕ). is_member name one.table ≡ false) (members other.table) other.name none other.member in
    cc (is, is_not)

pub same_place : (config : Config) (known : KnownSchemes config) (g h part : ℕ) → IsInGroup config g part → IsInGroup config h part → g ≡ h
same_place config known g h part one other =
    elim (cases_eq g h) [
      | inl same ↦ same
      | inr differ ↦ elim (cases_lt g h) [
        | inl less ↦ absurd (no_two config known g h part less one other)
        | inr more ↦ absurd (no_two config known h g part (omega (arith, more, differ)) other one)
      ]
    ]

pub are_groups : (config : Config) → KnownSchemes config → AreGroups (length config.participant) (groups_in config)
are_groups config known = record {
  filled = filled config known;
  in_range = in_range config known;
  disjoint = λ g h part one other. same_place config known g h part (in_group config known g part one) (in_group config known h part other);
}
