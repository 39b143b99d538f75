-- What is told once, from what is new after what stands before it.
use Rattle.std.proofs.Common.{◌≡◌, ◌≢◌, ℕ, ◌+◌, ◌≤◌, inl, inr, Bool, true, false, not, ◌&&◌, ◌||◌, cond, List, [], ◌∷◌, ◌++◌, map, Option, Some, None, IfSome, All, Contains, refl, ap, sym, subst, ◌∙◌, arith}
use Rattle.std.specs.Prelude.{AllPairs, count_by, unwrap_or}
use Rattle.std.proofs.lemmas.List.Elements.{All-weaker, All-contains}
use Rattle.cpl_tables.specs.Values.{are_distinct_texts}
use Rattle.cpl_config.specs.declared.config.Config.{Config}
use Rattle.cpl_config.specs.declared.config.PartTable.{PartTable}
use Rattle.cpl_config.specs.declared.config.ReceivesEntry.{ReceivesEntry}
use Rattle.cpl_config.specs.declared.config.DataEntry.{DataEntry}
use Rattle.cpl_config.specs.declared.config.ActionEntry.{ActionEntry}
use Rattle.cpl_config.specs.declared.config.SchemeTable.{SchemeTable}
use Rattle.cpl_config.specs.SoundConfig.{IsNameList, IsSoundScheme, IsSoundConfig}
use Rattle.plan_order.proofs.Loops.{in_cons}
use Rattle.config_rules.specs.Members.{is_implicit, is_multi, name_there, members, is_member}
use Rattle.config_rules.specs.ConfigRules.{IsAccepted}
use Rattle.config_laws.specs.Placed.{EachAfter}
use Rattle.config_laws.specs.FitMeshes.{IsFitReceived, IsFitRead, IsFitMap, IsFitAction}
use Rattle.config_laws.specs.FitSchemes.{HasTwo, HasMany, ShareNone, IsFitScheme}
use Rattle.config_laws.specs.FitConfig.{FitSchemes}
use Rattle.config_laws.specs.ToldOnce.{ReceivedOnce, ReadOnce, GoElsewhere, MappedOnce, TargetsOnce, ListedOnce, ShareOne, MetOnce, GroupedOnce}
use Rattle.config_laws.proofs.DistinctNames.{names_distinct}
use Rattle.config_laws.proofs.Pairs.{pairs_after}
use Rattle.config_laws.proofs.Splits.{each_weaker, each_all}
use Rattle.config_laws.proofs.Truths.{none_counted, counted, among, text_apart}
use Rattle.config_laws.proofs.WholeFacts.{received_meshes, read_data, maps, actions, schemes}

received_apart : (config : Config) (table : PartTable) → EachAfter (IsFitReceived config table) table.receives → are_distinct_texts (map (λ entry. entry.mesh) table.receives) ≡ true
received_apart config table fits =
    names_distinct (λ (entry : ReceivesEntry). entry.mesh) table.receives
    (each_weaker (IsFitReceived config table) (λ (before : List ReceivesEntry) (entry : ReceivesEntry). All (λ other. other.mesh ≢ entry.mesh) before) table.receives (λ before entry fit. fit.once) fits)

read_apart : (config : Config) (table : PartTable) → EachAfter (IsFitRead config table) table.read → are_distinct_texts (map (λ entry. entry.data_name) table.read) ≡ true
read_apart config table fits =
    names_distinct (λ (entry : DataEntry). entry.data_name) table.read
    (each_weaker (IsFitRead config table) (λ (before : List DataEntry) (entry : DataEntry). All (λ other. other.data_name ≢ entry.data_name) before) table.read (λ before entry fit. fit.once) fits)

pub received_once : (config : Config) → IsAccepted config → ReceivedOnce config
received_once config accepted =
    All-weaker (λ (table : PartTable). EachAfter (IsFitReceived config table) table.receives) (λ (table : PartTable). are_distinct_texts (map (λ entry. entry.mesh) table.receives) ≡ true)
    (received_apart config) config.participant (received_meshes config accepted)

pub read_once : (config : Config) → IsAccepted config → ReadOnce config
read_once config accepted =
    All-weaker (λ (table : PartTable). EachAfter (IsFitRead config table) table.read) (λ (table : PartTable). are_distinct_texts (map (λ entry. entry.data_name) table.read) ≡ true)
    (read_apart config) config.participant (read_data config accepted)

maps_apart : (config : Config) (table : PartTable) → EachAfter (IsFitMap config table) table.map → AllPairs GoElsewhere table.map
maps_apart config table fits = pairs_after GoElsewhere table.map (λ before entry after is. (fits before entry after is).once)

pub mapped_once : (config : Config) → IsAccepted config → MappedOnce config
mapped_once config accepted =
    All-weaker (λ (table : PartTable). EachAfter (IsFitMap config table) table.map) (λ (table : PartTable). AllPairs GoElsewhere table.map) (maps_apart config) config.participant (maps config accepted)

targets_apart : (config : Config) (table : PartTable) → EachAfter (IsFitAction config table) table.action → are_distinct_texts (map (λ entry. entry.target) table.action) ≡ true
targets_apart config table fits =
    names_distinct (λ (entry : ActionEntry). entry.target) table.action
    (each_weaker (IsFitAction config table) (λ (before : List ActionEntry) (entry : ActionEntry). All (λ other. other.target ≢ entry.target) before) table.action (λ before entry fit. fit.once) fits)

pub targets_once : (config : Config) → IsAccepted config → TargetsOnce config
targets_once config accepted =
    All-weaker (λ (table : PartTable). EachAfter (IsFitAction config table) table.action) (λ (table : PartTable). are_distinct_texts (map (λ entry. entry.target) table.action) ≡ true)
    (targets_apart config) config.participant (actions config accepted)

-- members

two_distinct : (first second : Option (List ℕ)) (listed : Option (List (List ℕ))) (one other : List ℕ) → first ≡ Some one → second ≡ Some other → listed ≡ None → one ≢ other
    → are_distinct_texts (name_there first ++ name_there second ++ unwrap_or listed []) ≡ true
two_distinct first second listed one other is_first is_second is_listed apart = rw (is_first, is_second, is_listed) (ap (λ b. not (b || false) && true) (text_apart one other apart))

many_distinct : (first second : Option (List ℕ)) (listed : Option (List (List ℕ))) (names : List (List ℕ)) → first ≡ None → second ≡ None → listed ≡ Some names → are_distinct_texts names ≡ true
    → are_distinct_texts (name_there first ++ name_there second ++ unwrap_or listed []) ≡ true
many_distinct first second listed names is_first is_second is_listed distinct = rw (is_first, is_second, is_listed) distinct

names_once : (listed : Option (List (List ℕ))) (names : List (List ℕ)) → listed ≡ Some names → IfSome listed IsNameList → are_distinct_texts names ≡ true
names_once listed names is sound = (let there : IfSome (Some names) IsNameList = subst (λ (o : Option (List (List ℕ))). IfSome o IsNameList) is sound in there.once)

members_distinct : (config : Config) (table : SchemeTable) (b : Bool) → is_multi table ≡ b → (is_multi table ≡ false → HasTwo table) → (is_multi table ≡ true → HasMany table) → IsSoundScheme table
    → are_distinct_texts (members table) ≡ true
members_distinct config table true is two many sound =
    let has = many is in
    many_distinct table.first table.second table.members has.names has.no_first has.no_second has.names_told (names_once table.members has.names has.names_told sound.members)
members_distinct config table false is two many sound =
    let has = two is in
    two_distinct table.first table.second table.members has.first has.second has.first_told has.second_told has.no_list has.apart

pub listed_once : (config : Config) → IsSoundConfig config → IsAccepted config → ListedOnce config
listed_once config sound accepted =
    let fits : All (λ table. IsSoundScheme table → are_distinct_texts (members table) ≡ true) config.scheme =
    each_all (λ (table : SchemeTable). IsSoundScheme table → are_distinct_texts (members table) ≡ true) config.scheme
    (each_weaker (IsFitScheme config) (λ (earlier : List SchemeTable) (table : SchemeTable). IsSoundScheme table → are_distinct_texts (members table) ≡ true) config.scheme
    (λ earlier table fit. members_distinct config table (is_multi table) refl fit.two fit.many) (schemes config accepted)) in
    λ k d within. fits k d within (sound.schemes k d within)

-- two that pass are one, where one at most is counted

one_there : {X : Type 0} (p : X → Bool) (x : X) (xs : List X) (b : Bool) → p x ≡ b → cond b 1 0 + count_by p xs ≤ 1 → (y z : X) → Contains (x ∷ xs) y → Contains (x ∷ xs) z → p y ≡ true → p z ≡ true
    → (count_by p xs ≤ 1 → Contains xs y → Contains xs z → y ≡ z) → y ≡ z
one_there {X} p x xs true is few y z in_y in_z pass_y pass_z rest =
    let none : All (λ w. p w ≡ false) xs = none_counted p xs (omega (arith, few)) in
    elim (in_cons x xs y in_y) [
      | inl first ↦ elim (in_cons x xs z in_z) [
        | inl second ↦ sym first ∙ second
        | inr later ↦ let fails : p z ≡ false = All-contains (λ (w : X). p w ≡ false) xs z none later in cc (fails, pass_z)
      ]
      | inr later ↦ let fails : p y ≡ false = All-contains (λ (w : X). p w ≡ false) xs y none later in cc (fails, pass_y)
    ]
one_there p x xs false is few y z in_y in_z pass_y pass_z rest =
    elim (in_cons x xs y in_y) [
      | inl first ↦ let fails : p y ≡ false = ap p (sym first) ∙ is in cc (fails, pass_y)
      | inr one ↦ elim (in_cons x xs z in_z) [
        | inl second ↦ let fails : p z ≡ false = ap p (sym second) ∙ is in cc (fails, pass_z)
        | inr other ↦ rest (omega (arith, few)) one other
      ]
    ]

one_at_most : {X : Type 0} (p : X → Bool) (xs : List X) → count_by p xs ≤ 1 → (y z : X) → Contains xs y → Contains xs z → p y ≡ true → p z ≡ true → y ≡ z
one_at_most p [] few y z in_y in_z pass_y pass_z = absurd (omega (arith, in_y.1))
one_at_most p (x ∷ xs) few y z in_y in_z pass_y pass_z =
    one_there p x xs (p x) refl (omega (arith, few, counted p x xs)) y z in_y in_z pass_y pass_z (λ fewer one other. one_at_most p xs fewer y z one other pass_y pass_z)

share_one : (one other : SchemeTable) → count_by (λ name. is_member name one) (members other) ≤ 1 → ShareOne one other
share_one one other few name partner name_one partner_one name_other partner_other =
    one_at_most (λ (text : List ℕ). is_member text one) (members other) few name partner (among name (members other) name_other) (among partner (members other) partner_other) name_one partner_one

pub met_once : (config : Config) → IsAccepted config → MetOnce config
met_once config accepted =
    let fits : FitSchemes config = schemes config accepted in
    pairs_after ShareOne config.scheme
    (λ before table after is. All-weaker (λ (one : SchemeTable). count_by (λ name. is_member name one) (members table) ≤ 1) (λ (one : SchemeTable). ShareOne one table) (λ one. share_one one table) before (fits before table after is).meets_once)

pub grouped_once : (config : Config) → FitSchemes config → GroupedOnce config
grouped_once config fits =
    pairs_after (λ (one other : SchemeTable). is_implicit one ≡ true → is_implicit other ≡ true → ShareNone other one) config.scheme
    (λ before table after is k d within one_is other_is. (fits before table after is).one_group other_is k d within one_is)
