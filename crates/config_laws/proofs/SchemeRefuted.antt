-- Schemes, exchanges, measures and accelerations that fit break no rule.
use Rattle.std.proofs.Common.{◌≡◌, ℕ, ◌≤◌, Bool, true, false, not, ◌&&◌, ◌||◌, cond, ◌⊎◌, inl, inr, length, List, [], ◌∷◌, ◌++◌, filter, find, Option, Some, None, All, Contains, ℤ, pos, refl, ap, sym, subst, arith}
use Rattle.std.specs.Prelude.{count_by, sum_by, unsigned_abs, unwrap_or, is_some, nat_lt}
use Rattle.std.specs.List.{list_any}
use Rattle.std.specs.Option.{option_map_or}
use Rattle.std.specs.Bool.{beq}
use Rattle.std.specs.Str.{bytes_eq}
use Rattle.std.proofs.lemmas.Bool.{le-ltb, lt-leb}
use Rattle.std.proofs.lemmas.List.Elements.{All-head, All-contains, All-weaker}
use Rattle.std.proofs.lemmas.List.Folds.{list_any_none}
use Rattle.cpl_config.specs.declared.kind_words.Direction.TheVariants.{Read, Write}
use Rattle.cpl_config.specs.declared.config.Config.{Config}
use Rattle.cpl_config.specs.declared.config.PartTable.{PartTable}
use Rattle.cpl_config.specs.declared.config.DataEntry.{DataEntry}
use Rattle.cpl_config.specs.declared.config.SchemeTable.{SchemeTable}
use Rattle.cpl_config.specs.declared.config.ExchangeEntry.{ExchangeEntry}
use Rattle.cpl_config.specs.declared.config.MeasureEntry.{MeasureEntry}
use Rattle.cpl_config.specs.declared.config.AccelEntry.{AccelEntry}
use Rattle.mesh_rules.specs.Entries.{scheme, exchanged, measured, accelerated}
use Rattle.mesh_rules.specs.Named.{is_data, is_mesh, is_participant, is_among, participant_called, carries, provides, receives, holds_of}
use Rattle.mesh_rules.specs.MeshRules.{scheme_names_nothing, is_undeclared, are_undeclared, has_map, lacks_write_map, lacks_read_map}
use Rattle.config_rules.specs.Members.{is_multi, is_implicit, name_there, members, is_member}
use Rattle.config_rules.specs.Members as M
use Rattle.config_rules.specs.SchemeRules.{same_name, has_wrong_two, has_wrong_many, hands_over, writes, reads, share_two, is_implicit_with, is_over_greatest, relaxes, components_of, is_accelerated}
use Rattle.config_rules.specs.Circles.{steps_of, has_circle, is_empty}
use Rattle.config_rules.specs.declared.rules.ConfigRule.TheVariants.{Undeclared, OffMesh, Unmapped, WrongMembers, WrongEnds, UnsharedMesh, UnusedExchange, MetTwice, TwoImplicit, Cycle, WrongMeasures, UncarriedMeasure, WrongIterations, WrongAcceleration, WideAcceleration, WrongWindows}
use Rattle.config_rules.specs.WindowRules.{has_wrong_windows}
use Rattle.config_laws.specs.FitSchemes.{HasTwo, HasMany, RepeatsWindows, RunsOnce, ShareNone, IsFitScheme, IsMappedThere, IsMappedHere, HandsOver, IsFitExchange, IsFitMeasure, IsFitAcceleration}
use Rattle.config_laws.proofs.CyclesOf.{both_hold}
use Rattle.config_laws.proofs.MeshRefuted.{Fine, both_there}
use Rattle.config_laws.proofs.NodesOf.{member_is}
use Rattle.config_laws.proofs.Refuted.{either_false, not_false, choice_false, one_without, unlike_false, lacks_none, at_test, is_there, not_there}
use Rattle.config_laws.proofs.SchemeFacts.{names_at}
use Rattle.config_laws.proofs.Splits.{all_left, all_right}
use Rattle.config_laws.proofs.Truths.{fails, same_text, apart_text, text_apart}
use Rattle.config_laws.proofs.WalksRound.{circle_meant}

-- names

name_fine : (declared : List ℕ → Bool) (name : Option (List ℕ)) → All (λ text. declared text ≡ true) (name_there name) → is_undeclared declared name ≡ false
name_fine declared None all = refl
name_fine declared (Some name) all = not_false (declared name) (All-head (λ (text : List ℕ). declared text ≡ true) name [] all)

names_fine : (declared : List ℕ → Bool) (names : Option (List (List ℕ))) → All (λ text. declared text ≡ true) (unwrap_or names []) → are_undeclared declared names ≡ false
names_fine declared None all = refl
names_fine declared (Some names) all = lacks_none declared names all

no_name_fine : (declared : List ℕ → Bool) (name : Option (List ℕ)) → name ≡ None → is_undeclared declared name ≡ false
no_name_fine declared name is = ap (λ (o : Option (List ℕ)). is_undeclared declared o) is

control_fine : (config : Config) (table : SchemeTable) (b : Bool) → is_multi table ≡ b → (is_multi table ≡ false → HasTwo table) → (is_multi table ≡ true → HasMany table)
    → All (λ name. is_participant config name ≡ true) (unwrap_or table.members []) → is_undeclared (is_participant config) table.control ≡ false
control_fine config table true is two many listed =
    let has = many is in
    let there : Contains (unwrap_or table.members []) has.control = subst (λ (names : List (List ℕ)). Contains names has.control) (sym (names_at table.members has.names has.names_told)) has.control_listed in
    let declared : is_participant config has.control ≡ true = All-contains (λ (name : List ℕ). is_participant config name ≡ true) (unwrap_or table.members []) has.control listed there in
    at_test (λ (name : List ℕ). not (is_participant config name)) table.control has.control false has.control_told (not_false (is_participant config has.control) declared)
control_fine config table false is two many listed = no_name_fine (is_participant config) table.control (two is).no_control

names_told : (config : Config) (earlier : List SchemeTable) (table : SchemeTable) → IsFitScheme config earlier table → scheme_names_nothing config table ≡ false
names_told config earlier table fit =
    let declared : List ℕ → Bool = is_participant config in
    let Is : List ℕ → Type 0 = λ name. declared name ≡ true in
    let front : All Is (name_there table.first ++ name_there table.second) = all_left Is (name_there table.first ++ name_there table.second) (unwrap_or table.members []) fit.declared in
    let listed : All Is (unwrap_or table.members []) = all_right Is (name_there table.first ++ name_there table.second) (unwrap_or table.members []) fit.declared in
    let first : Bool = is_undeclared declared table.first in
    let second : Bool = is_undeclared declared table.second in
    let control : Bool = is_undeclared declared table.control in
    either_false ((first || second) || control) (are_undeclared declared table.members)
    (either_false (first || second) control
    (either_false first second (name_fine declared table.first (all_left Is (name_there table.first) (name_there table.second) front)) (name_fine declared table.second (all_right Is (name_there table.first) (name_there table.second) front)))
    (control_fine config table (is_multi table) refl fit.two fit.many listed))
    (names_fine declared table.members listed)

-- members

two_fine : (table : SchemeTable) → HasTwo table → has_wrong_two table ≡ false
two_fine table has =
    either_false ((not (is_some table.first) || not (is_some table.second)) || (is_some table.control || is_some table.members)) (same_name table.first table.second)
    (either_false (not (is_some table.first) || not (is_some table.second)) (is_some table.control || is_some table.members)
    (both_there (is_some table.first) (is_some table.second) (is_there table.first has.first has.first_told) (is_there table.second has.second has.second_told))
    (either_false (is_some table.control) (is_some table.members) (not_there table.control has.no_control) (not_there table.members has.no_list)))
    (at_test (λ (name : List ℕ). option_map_or (bytes_eq name) table.second false) table.first has.first false has.first_told
    (at_test (bytes_eq has.first) table.second has.second false has.second_told (text_apart has.first has.second has.apart)))

many_fine : (table : SchemeTable) → HasMany table → has_wrong_many table ≡ false
many_fine table has =
    let listed : List (List ℕ) = unwrap_or table.members [] in
    let same : has.names ≡ listed = sym (names_at table.members has.names has.names_told) in
    let enough : 2 ≤ length listed = subst (λ (names : List (List ℕ)). 2 ≤ length names) same has.two_or_more in
    let inside : Contains listed has.control = subst (λ (names : List (List ℕ)). Contains names has.control) same has.control_listed in
    let member : option_map_or (λ name. is_among name listed) table.control false ≡ true = at_test (λ (name : List ℕ). is_among name listed) table.control has.control true has.control_told (member_is has.control listed inside) in
    either_false ((not (is_some table.control) || not (is_some table.members)) || (is_some table.first || is_some table.second)) (nat_lt (length listed) 2 || not (option_map_or (λ name. is_among name listed) table.control false))
    (either_false (not (is_some table.control) || not (is_some table.members)) (is_some table.first || is_some table.second)
    (both_there (is_some table.control) (is_some table.members) (is_there table.control has.control has.control_told) (is_there table.members has.names has.names_told))
    (either_false (is_some table.first) (is_some table.second) (not_there table.first has.no_first) (not_there table.second has.no_second)))
    (either_false (nat_lt (length listed) 2) (not (option_map_or (λ name. is_among name listed) table.control false)) (le-ltb (length listed) 2 enough) (not_false (option_map_or (λ name. is_among name listed) table.control false) member))

-- schemes beside those before them

meets_fine : (table : SchemeTable) (earlier : List SchemeTable) → All (λ other. count_by (λ name. is_member name other) (members table) ≤ 1) earlier → list_any (share_two table) earlier ≡ false
meets_fine table earlier few =
    list_any_none (share_two table) earlier
    (All-weaker (λ (other : SchemeTable). count_by (λ name. is_member name other) (members table) ≤ 1) (λ (other : SchemeTable). share_two table other ≡ false)
    (λ other count. lt-leb 2 (count_by (λ name. is_member name other) (members table)) (omega (arith, count))) earlier few)

group_fine : (table : SchemeTable) (earlier : List SchemeTable) → (is_implicit table ≡ true → All (λ other. is_implicit other ≡ true → ShareNone table other) earlier) → (is_implicit table && list_any (is_implicit_with table) earlier) ≡ false
group_fine table earlier apart =
    one_without (is_implicit table) (list_any (is_implicit_with table) earlier)
    (λ implicit. list_any_none (is_implicit_with table) earlier
    (All-weaker (λ (other : SchemeTable). is_implicit other ≡ true → ShareNone table other) (λ (other : SchemeTable). is_implicit_with table other ≡ false)
    (λ other none. one_without (is_implicit other) (list_any (λ name. is_member name other) (members table)) (λ is. list_any_none (λ (name : List ℕ). is_member name other) (members table) (none is))) earlier (apart implicit)))

-- measures and iterations

some_full : {X : Type 0} (xs : List X) → 1 ≤ length xs → is_empty xs ≡ false
some_full [] some = absurd (omega (arith, some))
some_full (x ∷ xs) some = refl

measures_fine : (table : SchemeTable) → (is_implicit table ≡ true → RepeatsWindows table) → (is_implicit table ≡ false → RunsOnce table) → beq (is_implicit table) (is_empty table.measure) ≡ false
measures_fine table implicit explicit =
    unlike_false (is_implicit table) (is_empty table.measure) (λ on. some_full table.measure (implicit on).measured) (λ off. ap (λ xs. is_empty xs) (explicit off).no_measures)

iterations_fine : (table : SchemeTable) → (is_implicit table ≡ true → RepeatsWindows table) → (is_implicit table ≡ false → RunsOnce table)
    → cond (is_implicit table) (not (is_some table.max_iterations) || is_over_greatest table.min_iterations table.max_iterations) (is_some table.max_iterations || is_some table.min_iterations) ≡ false
iterations_fine table implicit explicit =
    let over : Bool = is_over_greatest table.min_iterations table.max_iterations in
    choice_false (is_implicit table) (not (is_some table.max_iterations) || over) (is_some table.max_iterations || is_some table.min_iterations)
    (λ on.
    let has = (implicit on).iterations in
    let least : ℤ = unwrap_or table.min_iterations (pos 1) in
    either_false (not (is_some table.max_iterations)) over (not_false (is_some table.max_iterations) (is_there table.max_iterations has.greatest has.told))
    (at_test (λ (most : ℤ). nat_lt (unsigned_abs most) (unsigned_abs least)) table.max_iterations has.greatest false has.told (le-ltb (unsigned_abs has.greatest) (unsigned_abs least) has.in_order)))
    (λ off. either_false (is_some table.max_iterations) (is_some table.min_iterations) (not_there table.max_iterations (explicit off).no_greatest) (not_there table.min_iterations (explicit off).no_least))

pub scheme_fine : (config : Config) (earlier : List SchemeTable) (table : SchemeTable) → IsFitScheme config earlier table → has_wrong_windows config (scheme earlier table) ≡ false → Fine config (scheme earlier table)
scheme_fine config earlier table fit windows place Undeclared other before = names_told config earlier table fit
scheme_fine config earlier table fit windows place WrongMembers other before =
    choice_false (is_multi table) (has_wrong_many table) (has_wrong_two table) (λ multi. many_fine table (fit.many multi)) (λ few. two_fine table (fit.two few))
scheme_fine config earlier table fit windows place MetTwice other before = meets_fine table earlier fit.meets_once
scheme_fine config earlier table fit windows place TwoImplicit other before = group_fine table earlier fit.one_group
scheme_fine config earlier table fit windows place Cycle other before =
    fails (has_circle (steps_of config (earlier ++ table ∷ []))) (λ has. fit.no_circle (circle_meant (steps_of config (earlier ++ table ∷ [])) has))
scheme_fine config earlier table fit windows place WrongMeasures other before = measures_fine table fit.implicit fit.explicit
scheme_fine config earlier table fit windows place WrongIterations other before = iterations_fine table fit.implicit fit.explicit
scheme_fine config earlier table fit windows place WrongWindows other before = windows
scheme_fine config earlier table fit windows place rule other before = refl

-- exchanges

lacks_fine : (same_data same_mesh map : Bool) → (same_data ≡ true → same_mesh ≡ false → map ≡ true) → ((same_data && not same_mesh) && not map) ≡ false
lacks_fine true true map h = refl
lacks_fine true false map h = not_false map (h refl refl)
lacks_fine false same_mesh map h = refl

there_fine : (exchange : ExchangeEntry) (writer : PartTable) → All (IsMappedThere exchange writer) writer.write → lacks_write_map exchange writer ≡ false
there_fine exchange writer all =
    let lacks : DataEntry → Bool = λ entry. (bytes_eq entry.data_name exchange.data_name && not (bytes_eq entry.mesh exchange.mesh)) && not (has_map writer Write entry.mesh exchange.mesh) in
    list_any_none lacks writer.write
    (All-weaker (IsMappedThere exchange writer) (λ (entry : DataEntry). lacks entry ≡ false)
    (λ entry maps. lacks_fine (bytes_eq entry.data_name exchange.data_name) (bytes_eq entry.mesh exchange.mesh) (has_map writer Write entry.mesh exchange.mesh)
    (λ same apart. maps (same_text entry.data_name exchange.data_name same) (apart_text entry.mesh exchange.mesh apart))) writer.write all)

here_fine : (exchange : ExchangeEntry) (reader : PartTable) → All (IsMappedHere exchange reader) reader.read → lacks_read_map exchange reader ≡ false
here_fine exchange reader all =
    let lacks : DataEntry → Bool = λ entry. (bytes_eq entry.data_name exchange.data_name && not (bytes_eq entry.mesh exchange.mesh)) && not (has_map reader Read exchange.mesh entry.mesh) in
    list_any_none lacks reader.read
    (All-weaker (IsMappedHere exchange reader) (λ (entry : DataEntry). lacks entry ≡ false)
    (λ entry maps. lacks_fine (bytes_eq entry.data_name exchange.data_name) (bytes_eq entry.mesh exchange.mesh) (has_map reader Read exchange.mesh entry.mesh)
    (λ same apart. maps (same_text entry.data_name exchange.data_name same) (apart_text entry.mesh exchange.mesh apart))) reader.read all)

or_left : (a b : Bool) → a ≡ true → (a || b) ≡ true
or_left true b is = refl
or_left false b is = cc

or_right : (a b : Bool) → b ≡ true → (a || b) ≡ true
or_right true b is = refl
or_right false b is = is

hands : (config : Config) (from to mesh : List ℕ) (writer reader : PartTable) → participant_called config from ≡ Some writer → participant_called config to ≡ Some reader → HandsOver writer reader mesh
    → hands_over config from to mesh ≡ true
hands config from to mesh writer reader is_writer is_reader over =
    both_hold (holds_of config from (λ table. provides table mesh)) (holds_of config to (λ table. receives table mesh))
    (at_test (λ (table : PartTable). provides table mesh) (participant_called config from) writer true is_writer over.0)
    (at_test (λ (table : PartTable). receives table mesh) (participant_called config to) reader true is_reader over.1)

crossing_fine : (config : Config) (entry : ExchangeEntry) (writer reader : PartTable) → participant_called config entry.from ≡ Some writer → participant_called config entry.to ≡ Some reader
    → HandsOver writer reader entry.mesh ⊎ HandsOver reader writer entry.mesh → not (hands_over config entry.from entry.to entry.mesh || hands_over config entry.to entry.from entry.mesh) ≡ false
crossing_fine config entry writer reader is_writer is_reader (inl over) =
    not_false (hands_over config entry.from entry.to entry.mesh || hands_over config entry.to entry.from entry.mesh)
    (or_left (hands_over config entry.from entry.to entry.mesh) (hands_over config entry.to entry.from entry.mesh) (hands config entry.from entry.to entry.mesh writer reader is_writer is_reader over))
crossing_fine config entry writer reader is_writer is_reader (inr over) =
    not_false (hands_over config entry.from entry.to entry.mesh || hands_over config entry.to entry.from entry.mesh)
    (or_right (hands_over config entry.from entry.to entry.mesh) (hands_over config entry.to entry.from entry.mesh) (hands config entry.to entry.from entry.mesh reader writer is_reader is_writer over))

pub exchange_fine : (config : Config) (table : SchemeTable) (entry : ExchangeEntry) → IsFitExchange config table entry → Fine config (exchanged table entry)
exchange_fine config table entry fit place Undeclared other before =
    either_false (not (is_data config entry.data_name) || not (is_mesh config entry.mesh)) (not (is_participant config entry.from) || not (is_participant config entry.to))
    (both_there (is_data config entry.data_name) (is_mesh config entry.mesh) fit.data_declared fit.mesh_declared)
    (both_there (is_participant config entry.from) (is_participant config entry.to) (is_there (participant_called config entry.from) fit.writer fit.writer_called) (is_there (participant_called config entry.to) fit.reader fit.reader_called))
exchange_fine config table entry fit place OffMesh other before = not_false (carries config entry.mesh entry.data_name) fit.carried
exchange_fine config table entry fit place Unmapped other before =
    either_false (holds_of config entry.from (lacks_write_map entry)) (holds_of config entry.to (lacks_read_map entry))
    (at_test (lacks_write_map entry) (participant_called config entry.from) fit.writer false fit.writer_called (there_fine entry fit.writer fit.mapped_there))
    (at_test (lacks_read_map entry) (participant_called config entry.to) fit.reader false fit.reader_called (here_fine entry fit.reader fit.mapped_here))
exchange_fine config table entry fit place WrongEnds other before =
    either_false (bytes_eq entry.from entry.to) (not (is_member entry.from table) || not (is_member entry.to table)) (text_apart entry.from entry.to fit.apart)
    (both_there (is_member entry.from table) (is_member entry.to table) fit.from_member fit.to_member)
exchange_fine config table entry fit place UnsharedMesh other before = crossing_fine config entry fit.writer fit.reader fit.writer_called fit.reader_called fit.crossing
exchange_fine config table entry fit place UnusedExchange other before =
    both_there (holds_of config entry.from (writes entry.data_name)) (holds_of config entry.to (reads entry.data_name))
    (at_test (writes entry.data_name) (participant_called config entry.from) fit.writer true fit.writer_called fit.written)
    (at_test (reads entry.data_name) (participant_called config entry.to) fit.reader true fit.reader_called fit.read)
exchange_fine config table entry fit place rule other before = refl

-- measures and accelerations

found_first : {X : Type 0} (p : X → Bool) (y : X) (ys : List X) (x : X) (b : Bool) → cond b (Some y) (find p ys) ≡ Some x → (find p ys ≡ Some x → list_any p ys ≡ true) → (b || list_any p ys) ≡ true
found_first p y ys x true found rest = refl
found_first p y ys x false found rest = rest found

found_any : {X : Type 0} (p : X → Bool) (xs : List X) (x : X) → find p xs ≡ Some x → list_any p xs ≡ true
found_any p [] x found = cc
found_any p (y ∷ ys) x found = found_first p y ys x (p y) found (found_any p ys x)

pub measure_fine : (config : Config) (table : SchemeTable) (entry : MeasureEntry) → IsFitMeasure config table entry → Fine config (measured table entry)
measure_fine config table entry fit place Undeclared other before = not_false (is_data config entry.data_name) fit.data_declared
measure_fine config table entry fit place UncarriedMeasure other before =
    not_false (M.exchanges_data table entry.data_name) (found_any (λ (one : ExchangeEntry). bytes_eq one.data_name entry.data_name) table.exchange fit.exchange fit.first)
measure_fine config table entry fit place rule other before = refl

pub acceleration_fine : (config : Config) (table : SchemeTable) (entry : AccelEntry) → IsFitAcceleration config table entry → Fine config (accelerated table entry)
acceleration_fine config table entry fit place Undeclared other before = lacks_none (is_data config) entry.data_list fit.declared
acceleration_fine config table entry fit place WrongAcceleration other before =
    either_false (not (is_implicit table) || is_empty entry.data_list) (list_any (λ name. not (relaxes table name)) entry.data_list)
    (either_false (not (is_implicit table)) (is_empty entry.data_list) (not_false (is_implicit table) fit.implicit) (some_full entry.data_list fit.some))
    (lacks_none (relaxes table) entry.data_list fit.relaxed)
acceleration_fine config table entry fit place WideAcceleration other before = le-ltb 20 (sum_by (components_of config) (filter (is_accelerated table entry) table.exchange)) fit.narrow
acceleration_fine config table entry fit place rule other before = refl
