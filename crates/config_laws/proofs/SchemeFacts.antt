-- Schemes, exchanges, measures and accelerations of which no entry breaks a rule fit.
use Rattle.std.proofs.Common.{◌≡◌, ◌≢◌, ℕ, ◌<◌, ◌≤◌, Bool, true, false, not, ◌&&◌, ◌||◌, ◌⊎◌, inl, inr, length, List, [], ◌∷◌, ◌++◌, filter, Option, Some, None, IfSome, All, Contains, ℤ, pos, refl, ap, subst, arith}
use Rattle.std.specs.Prelude.{if◌then◌else◌, count_by, sum_by, unsigned_abs, unwrap_or, is_some, nat_lt, nat_le}
use Rattle.std.specs.List.{list_any}
use Rattle.std.specs.Option.{option_map_or}
use Rattle.std.specs.Str.{bytes_eq}
use Rattle.std.proofs.lemmas.Bool.{ltb-false, leb-false}
use Rattle.std.proofs.lemmas.List.Elements.{All-nil, All-cons, All-append, All-weaker}
use Rattle.cpl_config.specs.declared.kind_words.Direction.TheVariants.{Read, Write}
use Rattle.cpl_config.specs.declared.config.Config.{Config}
use Rattle.cpl_config.specs.declared.config.PartTable.{PartTable}
use Rattle.cpl_config.specs.declared.config.DataEntry.{DataEntry}
use Rattle.cpl_config.specs.declared.config.SchemeTable.{SchemeTable}
use Rattle.cpl_config.specs.declared.config.ExchangeEntry.{ExchangeEntry}
use Rattle.cpl_config.specs.declared.config.MeasureEntry.{MeasureEntry}
use Rattle.cpl_config.specs.declared.config.AccelEntry.{AccelEntry}
use Rattle.mesh_rules.specs.Entries.{scheme, exchanged, measured, accelerated}
use Rattle.mesh_rules.specs.Named.{is_data, is_mesh, is_participant, is_among, participant_called, carries, provides, receives, holds_of}
use Rattle.mesh_rules.specs.MeshRules.{scheme_names_nothing, is_undeclared, are_undeclared, has_map, lacks_write_map, lacks_read_map}
use Rattle.config_rules.specs.Members.{is_multi, is_implicit, name_there, members, is_member}
use Rattle.config_rules.specs.Members as M
use Rattle.config_rules.specs.SchemeRules.{same_name, has_wrong_two, has_wrong_many, hands_over, writes, reads, share_two, is_implicit_with, is_over_greatest, relaxes, components_of, is_accelerated}
use Rattle.config_rules.specs.Circles.{steps_of, has_circle, is_empty}
use Rattle.config_rules.specs.declared.rules.ConfigRule.TheVariants.{Undeclared, OffMesh, Unmapped, WrongMembers, WrongEnds, UnsharedMesh, UnusedExchange, MetTwice, TwoImplicit, Cycle, WrongMeasures, UncarriedMeasure, WrongIterations, WrongAcceleration, WideAcceleration}
use Rattle.config_laws.specs.Circling.{GoesRound}
use Rattle.config_laws.specs.FitSchemes.{HasTwo, HasMany, RepeatsWindows, RunsOnce, ShareNone, IsFitScheme, IsMappedThere, IsMappedHere, HandsOver, IsFitExchange, IsFitMeasure, IsFitAcceleration}
use Rattle.config_laws.proofs.KeptRules.{Kept, KeptScheme}
use Rattle.config_laws.proofs.Truths.{neither, one_of, both, holds, other_fails, differ, differ_false, choose_true, choose_false, apart_text, text_same, text_apart, none_passes, none_lacks, among, some_there, none_there, test_at, first_found}
use Rattle.config_laws.proofs.WalksRound.{circle_found}

-- where the names that are there are declared

name_declared : (declared : List ℕ → Bool) (name : Option (List ℕ)) → is_undeclared declared name ≡ false → All (λ text. declared text ≡ true) (name_there name)
name_declared declared None h = All-nil (λ (text : List ℕ). declared text ≡ true)
name_declared declared (Some name) h = All-cons (λ (text : List ℕ). declared text ≡ true) name [] (holds (declared name) h) (All-nil (λ (text : List ℕ). declared text ≡ true))

names_declared : (declared : List ℕ → Bool) (names : Option (List (List ℕ))) → are_undeclared declared names ≡ false → All (λ text. declared text ≡ true) (unwrap_or names [])
names_declared declared None h = All-nil (λ (text : List ℕ). declared text ≡ true)
names_declared declared (Some names) h = none_lacks declared names h

pub members_declared : (config : Config) (table : SchemeTable) → scheme_names_nothing config table ≡ false → All (λ name. is_participant config name ≡ true) (members table)
members_declared config table kept =
    let declared : List ℕ → Bool = is_participant config in
    let Is : List ℕ → Type 0 = λ name. declared name ≡ true in
    let first : Bool = is_undeclared declared table.first in
    let second : Bool = is_undeclared declared table.second in
    let control : Bool = is_undeclared declared table.control in
    let listed = neither ((first || second) || control) (are_undeclared declared table.members) kept in
    let told = neither (first || second) control listed.0 in
    let two = neither first second told.0 in
    All-append Is (name_there table.first ++ name_there table.second) (unwrap_or table.members [])
    (All-append Is (name_there table.first) (name_there table.second) (name_declared declared table.first two.0) (name_declared declared table.second two.1))
    (names_declared declared table.members listed.1)

-- members

two_apart : (one other : Option (List ℕ)) (first second : List ℕ) → one ≡ Some first → other ≡ Some second → same_name one other ≡ false → first ≢ second
two_apart one other first second is_first is_second h =
    let at_first : option_map_or (bytes_eq first) other false ≡ false = test_at (λ (name : List ℕ). option_map_or (bytes_eq name) other false) one first false is_first h in
    apart_text first second (test_at (bytes_eq first) other second false is_second at_first)

two_members : (table : SchemeTable) → has_wrong_two table ≡ false → HasTwo table
two_members table h =
    let parts = neither ((not (is_some table.first) || not (is_some table.second)) || (is_some table.control || is_some table.members)) (same_name table.first table.second) h in
    let told = neither (not (is_some table.first) || not (is_some table.second)) (is_some table.control || is_some table.members) parts.0 in
    let there = neither (not (is_some table.first)) (not (is_some table.second)) told.0 in
    let absent = neither (is_some table.control) (is_some table.members) told.1 in
    let first = some_there table.first (holds (is_some table.first) there.0) in
    let second = some_there table.second (holds (is_some table.second) there.1) in
    record {
      first = first.0;
      second = second.0;
      first_told = first.1;
      second_told = second.1;
      apart = two_apart table.first table.second first.0 second.0 first.1 second.1 parts.1;
      no_control = none_there table.control absent.0;
      no_list = none_there table.members absent.1;
    }

pub names_at : (listed : Option (List (List ℕ))) (names : List (List ℕ)) → listed ≡ Some names → unwrap_or listed [] ≡ names
names_at listed names is = ap (λ (o : Option (List (List ℕ))). unwrap_or o []) is

many_members : (table : SchemeTable) → has_wrong_many table ≡ false → HasMany table
many_members table h =
    let listed : List (List ℕ) = unwrap_or table.members [] in
    let few : Bool = nat_lt (length listed) 2 in
    let inside : Bool = option_map_or (λ name. is_among name listed) table.control false in
    let parts = neither ((not (is_some table.control) || not (is_some table.members)) || (is_some table.first || is_some table.second)) (few || not inside) h in
    let told = neither (not (is_some table.control) || not (is_some table.members)) (is_some table.first || is_some table.second) parts.0 in
    let there = neither (not (is_some table.control)) (not (is_some table.members)) told.0 in
    let absent = neither (is_some table.first) (is_some table.second) told.1 in
    let counted = neither few (not inside) parts.1 in
    let control = some_there table.control (holds (is_some table.control) there.0) in
    let names = some_there table.members (holds (is_some table.members) there.1) in
    let same : listed ≡ names.0 = names_at table.members names.0 names.1 in
    let within : is_among control.0 listed ≡ true = test_at (λ (name : List ℕ). is_among name listed) table.control control.0 true control.1 (holds inside counted.1) in
    record {
      names = names.0;
      control = control.0;
      names_told = names.1;
      control_told = control.1;
      two_or_more = subst (λ (xs : List (List ℕ)). 2 ≤ length xs) same (ltb-false (length listed) 2 counted.0);
      control_listed = subst (λ (xs : List (List ℕ)). Contains xs control.0) same (among control.0 listed within);
      no_first = none_there table.first absent.0;
      no_second = none_there table.second absent.1;
    }

pub two_told : (table : SchemeTable) → (if is_multi table then has_wrong_many table else has_wrong_two table) ≡ false → is_multi table ≡ false → HasTwo table
two_told table h few = two_members table (choose_false (is_multi table) (has_wrong_many table) (has_wrong_two table) h few)

pub many_told : (table : SchemeTable) → (if is_multi table then has_wrong_many table else has_wrong_two table) ≡ false → is_multi table ≡ true → HasMany table
many_told table h multi = many_members table (choose_true (is_multi table) (has_wrong_many table) (has_wrong_two table) h multi)

-- what implicit schemes have, and explicit ones have not

some_items : {X : Type 0} (xs : List X) → is_empty xs ≡ false → 1 ≤ length xs
some_items [] h = cc
some_items (x ∷ xs) h = omega arith

no_items : {X : Type 0} (xs : List X) → is_empty xs ≡ true → xs ≡ []
no_items [] h = refl
no_items (x ∷ xs) h = cc

repeats : (config : Config) (earlier : List SchemeTable) (table : SchemeTable) → Kept config (scheme earlier table) → is_implicit table ≡ true → RepeatsWindows table
repeats config earlier table kept implicit =
    let over : Bool = is_over_greatest table.min_iterations table.max_iterations in
    let rule = choose_true (is_implicit table) (not (is_some table.max_iterations) || over) (is_some table.max_iterations || is_some table.min_iterations) (kept WrongIterations).2 implicit in
    let parts = neither (not (is_some table.max_iterations)) over rule in
    let greatest = some_there table.max_iterations (holds (is_some table.max_iterations) parts.0) in
    let least : ℤ = unwrap_or table.min_iterations (pos 1) in
    let below = test_at (λ (most : ℤ). nat_lt (unsigned_abs most) (unsigned_abs least)) table.max_iterations greatest.0 false greatest.1 parts.1 in
    record {
      iterations = record { greatest = greatest.0; told = greatest.1; in_order = ltb-false (unsigned_abs greatest.0) (unsigned_abs least) below };
      measured = some_items table.measure (differ (is_implicit table) (is_empty table.measure) (kept WrongMeasures).2 implicit);
    }

unaccelerated : (config : Config) (table : SchemeTable) → is_implicit table ≡ false → (acceleration : Option AccelEntry) → IfSome acceleration (λ entry. Kept config (accelerated table entry)) → acceleration ≡ None
unaccelerated config table explicit None kept = refl
unaccelerated config table explicit (Some entry) kept =
    let wrong : Bool = list_any (λ name. not (relaxes table name)) entry.data_list in
    let rule = neither (not (is_implicit table) || is_empty entry.data_list) wrong (kept WrongAcceleration).2 in
    let parts = neither (not (is_implicit table)) (is_empty entry.data_list) rule.0 in
    let implicit : is_implicit table ≡ true = holds (is_implicit table) parts.0 in
    cc (explicit, implicit)

runs_once : (config : Config) (earlier : List SchemeTable) (table : SchemeTable) → KeptScheme config earlier table → is_implicit table ≡ false → RunsOnce table
runs_once config earlier table kept explicit =
    let over : Bool = is_over_greatest table.min_iterations table.max_iterations in
    let rule = choose_false (is_implicit table) (not (is_some table.max_iterations) || over) (is_some table.max_iterations || is_some table.min_iterations) (kept.own WrongIterations).2 explicit in
    let parts = neither (is_some table.max_iterations) (is_some table.min_iterations) rule in
    record {
      no_greatest = none_there table.max_iterations parts.0;
      no_least = none_there table.min_iterations parts.1;
      no_measures = no_items table.measure (differ_false (is_implicit table) (is_empty table.measure) (kept.own WrongMeasures).2 explicit);
      no_acceleration = unaccelerated config table explicit table.acceleration kept.acceleration;
    }

-- schemes beside those before them

at_most_one : (n : ℕ) → nat_le 2 n ≡ false → n ≤ 1
at_most_one n h = let less : n < 2 = leb-false 2 n h in omega (arith, less)

meets : (table : SchemeTable) (earlier : List SchemeTable) → list_any (share_two table) earlier ≡ false → All (λ other. count_by (λ name. is_member name other) (members table) ≤ 1) earlier
meets table earlier h =
    All-weaker (λ (other : SchemeTable). share_two table other ≡ false) (λ (other : SchemeTable). count_by (λ name. is_member name other) (members table) ≤ 1)
    (λ other. at_most_one (count_by (λ name. is_member name other) (members table))) earlier (none_passes (share_two table) earlier h)

shares_none : (table other : SchemeTable) → is_implicit_with table other ≡ false → is_implicit other ≡ true → ShareNone table other
shares_none table other h implicit =
    none_passes (λ (name : List ℕ). is_member name other) (members table)
    (other_fails (is_implicit other) (list_any (λ name. is_member name other) (members table)) h implicit)

pub one_group : (table : SchemeTable) (earlier : List SchemeTable) → (is_implicit table && list_any (is_implicit_with table) earlier) ≡ false → is_implicit table ≡ true
    → All (λ other. is_implicit other ≡ true → ShareNone table other) earlier
one_group table earlier h implicit =
    All-weaker (λ (other : SchemeTable). is_implicit_with table other ≡ false) (λ (other : SchemeTable). is_implicit other ≡ true → ShareNone table other)
    (λ other. shares_none table other) earlier
    (none_passes (is_implicit_with table) earlier (other_fails (is_implicit table) (list_any (is_implicit_with table) earlier) h implicit))

no_circle : (config : Config) (tables : List SchemeTable) → has_circle (steps_of config tables) ≡ false → ¬ GoesRound (steps_of config tables)
no_circle config tables h round = let has : has_circle (steps_of config tables) ≡ true = circle_found (steps_of config tables) round in cc (h, has)

pub fit_scheme : (config : Config) (earlier : List SchemeTable) (table : SchemeTable) → KeptScheme config earlier table → IsFitScheme config earlier table
fit_scheme config earlier table kept = record {
  declared = members_declared config table (kept.own Undeclared).2;
  two = two_told table (kept.own WrongMembers).2;
  many = many_told table (kept.own WrongMembers).2;
  meets_once = meets table earlier (kept.own MetTwice).2;
  one_group = one_group table earlier (kept.own TwoImplicit).2;
  implicit = repeats config earlier table kept.own;
  explicit = runs_once config earlier table kept;
  no_circle = no_circle config (earlier ++ table ∷ []) (kept.own Cycle).2;
}

-- exchanges

crosses : (writer reader : PartTable) (mesh : List ℕ) (config : Config) (from to : List ℕ) → participant_called config from ≡ Some writer → participant_called config to ≡ Some reader
    → hands_over config from to mesh ≡ true → HandsOver writer reader mesh
crosses writer reader mesh config from to is_writer is_reader h =
    let parts = both (holds_of config from (λ table. provides table mesh)) (holds_of config to (λ table. receives table mesh)) h in (
      test_at (λ (table : PartTable). provides table mesh) (participant_called config from) writer true is_writer parts.0,
      test_at (λ (table : PartTable). receives table mesh) (participant_called config to) reader true is_reader parts.1,
    )

has_it : (same_data same_mesh map : Bool) → ((same_data && not same_mesh) && not map) ≡ false → same_data ≡ true → same_mesh ≡ false → map ≡ true
has_it true true map h is_data is_mesh = cc
has_it true false true h is_data is_mesh = refl
has_it true false false h is_data is_mesh = cc
has_it false same_mesh map h is_data is_mesh = cc

maps_there : (exchange : ExchangeEntry) (writer : PartTable) → lacks_write_map exchange writer ≡ false → All (IsMappedThere exchange writer) writer.write
maps_there exchange writer h =
    let lacks : DataEntry → Bool = λ entry. (bytes_eq entry.data_name exchange.data_name && not (bytes_eq entry.mesh exchange.mesh)) && not (has_map writer Write entry.mesh exchange.mesh) in
    All-weaker (λ (entry : DataEntry). lacks entry ≡ false) (IsMappedThere exchange writer)
    (λ entry fine same apart. has_it (bytes_eq entry.data_name exchange.data_name) (bytes_eq entry.mesh exchange.mesh) (has_map writer Write entry.mesh exchange.mesh) fine
    (text_same entry.data_name exchange.data_name same) (text_apart entry.mesh exchange.mesh apart))
    writer.write (none_passes lacks writer.write h)

maps_here : (exchange : ExchangeEntry) (reader : PartTable) → lacks_read_map exchange reader ≡ false → All (IsMappedHere exchange reader) reader.read
maps_here exchange reader h =
    let lacks : DataEntry → Bool = λ entry. (bytes_eq entry.data_name exchange.data_name && not (bytes_eq entry.mesh exchange.mesh)) && not (has_map reader Read exchange.mesh entry.mesh) in
    All-weaker (λ (entry : DataEntry). lacks entry ≡ false) (IsMappedHere exchange reader)
    (λ entry fine same apart. has_it (bytes_eq entry.data_name exchange.data_name) (bytes_eq entry.mesh exchange.mesh) (has_map reader Read exchange.mesh entry.mesh) fine
    (text_same entry.data_name exchange.data_name same) (text_apart entry.mesh exchange.mesh apart))
    reader.read (none_passes lacks reader.read h)

crossing : (config : Config) (entry : ExchangeEntry) (writer reader : PartTable) → participant_called config entry.from ≡ Some writer → participant_called config entry.to ≡ Some reader
    → not (hands_over config entry.from entry.to entry.mesh || hands_over config entry.to entry.from entry.mesh) ≡ false → HandsOver writer reader entry.mesh ⊎ HandsOver reader writer entry.mesh
crossing config entry writer reader is_writer is_reader h =
    let there : Bool = hands_over config entry.from entry.to entry.mesh in
    let back : Bool = hands_over config entry.to entry.from entry.mesh in
    elim (one_of there back (holds (there || back) h)) [
      | inl over ↦ inl (crosses writer reader entry.mesh config entry.from entry.to is_writer is_reader over)
      | inr over ↦ inr (crosses reader writer entry.mesh config entry.to entry.from is_reader is_writer over)
    ]

pub fit_exchange : (config : Config) (table : SchemeTable) (entry : ExchangeEntry) → Kept config (exchanged table entry) → IsFitExchange config table entry
fit_exchange config table entry kept =
    let data_there : Bool = is_data config entry.data_name in
    let mesh_there : Bool = is_mesh config entry.mesh in
    let from_there : Bool = is_participant config entry.from in
    let to_there : Bool = is_participant config entry.to in
    let written : Bool = holds_of config entry.from (writes entry.data_name) in
    let read : Bool = holds_of config entry.to (reads entry.data_name) in
    let names = neither (not data_there || not mesh_there) (not from_there || not to_there) (kept Undeclared).2 in
    let things = neither (not data_there) (not mesh_there) names.0 in
    let people = neither (not from_there) (not to_there) names.1 in
    let ends = neither (bytes_eq entry.from entry.to) (not (is_member entry.from table) || not (is_member entry.to table)) (kept WrongEnds).2 in
    let both_in = neither (not (is_member entry.from table)) (not (is_member entry.to table)) ends.1 in
    let used = neither (not written) (not read) (kept UnusedExchange).2 in
    let maps = neither (holds_of config entry.from (lacks_write_map entry)) (holds_of config entry.to (lacks_read_map entry)) (kept Unmapped).2 in
    let writer = some_there (participant_called config entry.from) (holds from_there people.0) in
    let reader = some_there (participant_called config entry.to) (holds to_there people.1) in
    record {
      data_declared = holds data_there things.0;
      mesh_declared = holds mesh_there things.1;
      carried = holds (carries config entry.mesh entry.data_name) (kept OffMesh).2;
      apart = apart_text entry.from entry.to ends.0;
      from_member = holds (is_member entry.from table) both_in.0;
      to_member = holds (is_member entry.to table) both_in.1;
      writer = writer.0;
      writer_called = writer.1;
      reader = reader.0;
      reader_called = reader.1;
      written = test_at (writes entry.data_name) (participant_called config entry.from) writer.0 true writer.1 (holds written used.0);
      read = test_at (reads entry.data_name) (participant_called config entry.to) reader.0 true reader.1 (holds read used.1);
      crossing = crossing config entry writer.0 reader.0 writer.1 reader.1 (kept UnsharedMesh).2;
      mapped_there = maps_there entry writer.0 (test_at (lacks_write_map entry) (participant_called config entry.from) writer.0 false writer.1 maps.0);
      mapped_here = maps_here entry reader.0 (test_at (lacks_read_map entry) (participant_called config entry.to) reader.0 false reader.1 maps.1);
    }

-- measures and accelerations

pub fit_measure : (config : Config) (table : SchemeTable) (entry : MeasureEntry) → Kept config (measured table entry) → IsFitMeasure config table entry
fit_measure config table entry kept =
    let first = first_found (λ (other : ExchangeEntry). bytes_eq other.data_name entry.data_name) table.exchange (holds (M.exchanges_data table entry.data_name) (kept UncarriedMeasure).2) in
    record { data_declared = holds (is_data config entry.data_name) (kept Undeclared).2; exchange = first.0; first = first.1 }

pub fit_acceleration : (config : Config) (table : SchemeTable) (entry : AccelEntry) → Kept config (accelerated table entry) → IsFitAcceleration config table entry
fit_acceleration config table entry kept =
    let wrong : Bool = list_any (λ name. not (relaxes table name)) entry.data_list in
    let rule = neither (not (is_implicit table) || is_empty entry.data_list) wrong (kept WrongAcceleration).2 in
    let parts = neither (not (is_implicit table)) (is_empty entry.data_list) rule.0 in
    record {
      implicit = holds (is_implicit table) parts.0;
      declared = none_lacks (is_data config) entry.data_list (kept Undeclared).2;
      some = some_items entry.data_list parts.1;
      relaxed = none_lacks (relaxes table) entry.data_list rule.1;
      narrow = ltb-false 20 (sum_by (components_of config) (filter (is_accelerated table entry) table.exchange)) (kept WideAcceleration).2;
    }
