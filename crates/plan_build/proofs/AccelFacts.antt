-- Accelerations of the plan of an accepted configuration.
use Rattle.std.proofs.Common.{◌≡◌, ℕ, zero, suc, ◌+◌, ◌-◌, ◌^◌, ◌<◌, ◌≤◌, Bool, true, false, ◌&&◌, ◌||◌, cond, nat_eq, nat_le, inl, inr, List, [], ◌∷◌, length, map, Option, Some, None, All, Contains, refl, ap, sym, subst, ◌∙◌, arith}
use Rattle.std.specs.Prelude.{slice_get, filter, flat_map, sum_by, unsigned_abs, pos, negsuc, ℤ, IfSome, option_map}
use Rattle.std.specs.List.{range_with_len, enumerate_from}
use Rattle.std.specs.Cmp.Lexicographic.{pointwise}
use Rattle.std.specs.Option.{option_map_or, option_and_then, option_to_list}
use Rattle.std.specs.Str.{bytes_eq}
use Rattle.std.proofs.lemmas.Bool.{and_from, and_parts, eq-eqb, le-leb, cases_Bool, false≢true}
use Rattle.std.proofs.lemmas.Option.{slice_get_within, slice_get-get_or}
use Rattle.std.proofs.lemmas.List.Sums.{sum_by-cons}
use Rattle.std.proofs.lemmas.List.Elements.{Contains-append_left, Contains-append_right, Contains-append_cases}
use Rattle.cpl_tables.specs.Values.{is_in_range}
use Rattle.cpl_tables.specs.declared.shapes.Range.TheVariants.{Between}
use Rattle.cpl_config.specs.declared.kind_words.AccelWord.{AccelWord}
use Rattle.cpl_config.specs.declared.kind_words.AccelWord.TheVariants as A
use Rattle.cpl_config.specs.declared.kind_words.DataKind.{DataKind}
use Rattle.cpl_config.specs.declared.kind_words.DataKind.TheVariants.{Scalar, Vector}
use Rattle.cpl_config.specs.declared.config.Config.{Config}
use Rattle.cpl_config.specs.declared.config.DataTable.{DataTable}
use Rattle.cpl_config.specs.declared.config.MeshTable.{MeshTable}
use Rattle.cpl_config.specs.declared.config.SchemeTable.{SchemeTable}
use Rattle.cpl_config.specs.declared.config.ExchangeEntry.{ExchangeEntry}
use Rattle.cpl_config.specs.declared.config.AccelEntry.{AccelEntry}
use Rattle.cpl_config.specs.SoundConfig.{IsSoundConfig, IsSoundScheme, IsSoundAcceleration}
use Rattle.cpl_plan.specs.declared.parts.PlanParts.{PlanParts}
use Rattle.cpl_plan.specs.declared.parts.Exchange.{Exchange}
use Rattle.cpl_plan.specs.declared.parts.Kind.{Kind}
use Rattle.cpl_plan.specs.declared.parts.Kind.TheVariants.{Lag, Fresh, FreshIter, Iterated}
use Rattle.cpl_plan.specs.ExchangeKinds as kinds
use Rattle.cpl_plan.specs.PlanWords as words
use Rattle.cpl_plan.specs.PlanTests as tests
use Rattle.cpl_plan.proofs.Readings.{there, in_among, among_in}
use Rattle.plan_order.specs.declared.node.Node.{Node}
use Rattle.plan_order.proofs.Loops.{head_in, tail_in, in_cons}
use Rattle.mesh_rules.specs.Named as named
use Rattle.config_rules.specs.ConfigRules.{IsAccepted}
use Rattle.config_rules.specs.Members.{is_iterated, kind_is_iterated, scheme_kind}
use Rattle.config_rules.specs.SchemeRules.{is_accelerated, relaxes, components_of, components_by}
use Rattle.config_laws.specs.FitSchemes.{IsFitAcceleration}
use Rattle.config_laws.proofs.Members.{any_found}
use Rattle.config_laws.proofs.Truths.{some_there, same_text, text_same}
use Rattle.config_laws.proofs.WholeFacts as facts
use Rattle.scheme_parts.specs.NumbersOf.{data_number, mesh_number, exchanges_before}
use Rattle.scheme_parts.specs.ExchangeOf.{exchange_of}
use Rattle.scheme_parts.specs.AccelOf.{accelerated, accel_by, accel_of}
use Rattle.scheme_parts.specs.SchemeOf.{scheme_of}
use Rattle.scheme_parts.proofs.Tables.{same_some, none_some, same_bool, all_at, map_at, each_numbered}
use Rattle.scheme_parts.proofs.NamedTables.{table_at, same_name}
use Rattle.scheme_parts.proofs.Ranges.{none_in_range, filter_twice}
use Rattle.plan_build.specs.DataOf.{data_of, is_vector}
use Rattle.plan_build.specs.MeshOf.{mesh_of}
use Rattle.plan_build.specs.PlanOf.{plan_of, exchanges_of_all}
use Rattle.plan_build.proofs.PlanReadings.{data_name, mesh_name, data_at}
use Rattle.plan_build.proofs.ExchangePlaces.{exchange_from, exchange_there, within_all}
use Rattle.plan_build.proofs.FitAt.{fit_exchange}
use Rattle.plan_build.proofs.SchemeFacts.{of_scheme}

-- what lists that are put together contain

pub in_flat : {X Y : Type 0} (g : X → List Y) (xs : List X) (x : X) (y : Y) → Contains xs x → Contains (g x) y → Contains (flat_map g xs) y
in_flat g [] x y inside own = absurd (omega (arith, inside.1))
in_flat {X} {Y} g (z ∷ xs) x y inside own = elim (in_cons z xs x inside) [
  | inl same ↦ Contains-append_left (g z) (flat_map g xs) y (subst (λ (w : X). Contains (g w) y) (sym same) own)
  | inr rest ↦ Contains-append_right (g z) (flat_map g xs) y (in_flat g xs x y rest own)
]

pub from_flat : {X Y : Type 0} (g : X → List Y) (xs : List X) (y : Y) → Contains (flat_map g xs) y → (x : X) × Contains xs x × Contains (g x) y
from_flat g [] y inside = absurd (omega (arith, inside.1))
from_flat g (x ∷ xs) y inside = elim (Contains-append_cases (g x) (flat_map g xs) y inside) [
  | inl own ↦ (x, head_in x xs, own)
  | inr rest ↦ let later = from_flat g xs y rest in (later.0, tail_in x xs later.0 later.1, later.2)
]

-- the numbers of the items that pass, from a number on

abbrev passing : {X : Type 0} → (X → Bool) → ℕ → List X → List ℕ
passing test start xs = map (λ numbered. numbered.0) (filter (λ numbered. test numbered.1) (enumerate_from start xs))

passing_cons : {X : Type 0} (test : X → Bool) (start : ℕ) (x : X) (xs : List X) (b : Bool) → test x ≡ b → passing test start (x ∷ xs) ≡ cond b (start ∷ passing test (start + 1) xs) (passing test (start + 1) xs)
passing_cons test start x xs true is = ap (λ b. map (λ numbered. numbered.0) (cond b ((start, x) ∷ filter (λ numbered. test numbered.1) (enumerate_from (start + 1) xs)) (filter (λ numbered. test numbered.1) (enumerate_from (start + 1) xs)))) is
passing_cons test start x xs false is = ap (λ b. map (λ numbered. numbered.0) (cond b ((start, x) ∷ filter (λ numbered. test numbered.1) (enumerate_from (start + 1) xs)) (filter (λ numbered. test numbered.1) (enumerate_from (start + 1) xs)))) is

in_passing : {X : Type 0} (test : X → Bool) (start : ℕ) (xs : List X) (k : ℕ) (x : X) → slice_get xs k ≡ Some x → test x ≡ true → Contains (passing test start xs) (start + k)
in_passing test start [] k x at holds = absurd (none_some at)
in_passing {X} test start (y ∷ xs) zero x at holds =
    let here : start ≡ start + 0 = omega (arith) in
    subst (λ (ns : List ℕ). Contains ns (start + 0)) (sym (passing_cons test start y xs true (ap test (same_some at) ∙ holds)))
    (subst (λ (n : ℕ). Contains (start ∷ passing test (start + 1) xs) n) here (head_in start (passing test (start + 1) xs)))
in_passing {X} test start (y ∷ xs) (suc k) x at holds =
    let there_on : start + 1 + k ≡ start + suc k = omega (arith) in
    let later : Contains (passing test (start + 1) xs) (start + suc k) = subst (λ (n : ℕ). Contains (passing test (start + 1) xs) n) there_on (in_passing test (start + 1) xs k x at holds) in
    elim (cases_Bool (test y)) [
      | inl is ↦ subst (λ (ns : List ℕ). Contains ns (start + suc k)) (sym (passing_cons test start y xs true is)) (tail_in start (passing test (start + 1) xs) (start + suc k) later)
      | inr is ↦ subst (λ (ns : List ℕ). Contains ns (start + suc k)) (sym (passing_cons test start y xs false is)) later
    ]

record IsPassing {X : Type 0} (test : X → Bool) (start : ℕ) (xs : List X) (n : ℕ) : Type 0 where
  place : ℕ
  item : X
  at : slice_get xs place ≡ Some item
  holds : test item ≡ true
  number : n ≡ start + place

one_later : {X : Type 0} (test : X → Bool) (start : ℕ) (y : X) (xs : List X) (n : ℕ) → IsPassing test (start + 1) xs n → IsPassing test start (y ∷ xs) n
one_later test start y xs n is = record { place = suc is.place; item = is.item; at = is.at; holds = is.holds; number = omega (arith, is.number) }

from_passing : {X : Type 0} (test : X → Bool) (start : ℕ) (xs : List X) (n : ℕ) → Contains (passing test start xs) n → IsPassing test start xs n
from_passing test start [] n inside = absurd (omega (arith, inside.1))
from_passing test start (y ∷ xs) n inside = elim (cases_Bool (test y)) [
  | inl is ↦ elim (in_cons start (passing test (start + 1) xs) n (subst (λ (ns : List ℕ). Contains ns n) (passing_cons test start y xs true is) inside)) [
    | inl same ↦ record { place = 0; item = y; at = refl; holds = is; number = omega (arith, same) }
    | inr rest ↦ one_later test start y xs n (from_passing test (start + 1) xs n rest)
  ]
  | inr is ↦ one_later test start y xs n (from_passing test (start + 1) xs n (subst (λ (ns : List ℕ). Contains ns n) (passing_cons test start y xs false is) inside))
]

kept : (test : ℕ → Bool) (n : ℕ) (ns : List ℕ) (b : Bool) → test n ≡ b → filter test (n ∷ ns) ≡ cond b (n ∷ filter test ns) (filter test ns)
kept test n ns b is = ap (λ c. cond c (n ∷ filter test ns) (filter test ns)) is

-- a test of numbers that agrees keeps the same
passing_range : {X : Type 0} (test : X → Bool) (by_number : ℕ → Bool) (start : ℕ) (xs : List X) → ((k : ℕ) (x : X) → slice_get xs k ≡ Some x → by_number (start + k) ≡ test x) → passing test start xs ≡ filter by_number (range_with_len start (length xs))
passing_range test by_number start [] same = refl
passing_range {X} test by_number start (x ∷ xs) same =
    let here : by_number start ≡ test x = (let on : start ≡ start + 0 = omega (arith) in ap by_number on ∙ same 0 x refl) in
    let later : passing test (start + 1) xs ≡ filter by_number (range_with_len (start + 1) (length xs)) =
    passing_range test by_number (start + 1) xs (λ k y at. let on : start + 1 + k ≡ start + suc k = omega (arith) in ap by_number on ∙ same (suc k) y at) in
    passing_cons test start x xs (test x) refl
    ∙ (ap (λ (ns : List ℕ). cond (test x) (start ∷ ns) ns) later ∙ sym (kept by_number start (range_with_len (start + 1) (length xs)) (test x) here))

-- numbers that fail before and after others
skip : (test : ℕ → Bool) (start n m : ℕ) → ((j : ℕ) → j < n → test (start + j) ≡ false) → filter test (range_with_len start (n + m)) ≡ filter test (range_with_len (start + n) m)
skip test start zero m none =
    let count : 0 + m ≡ m = omega (arith) in
    let on : start ≡ start + 0 = omega (arith) in
    ap (λ (k : ℕ). filter test (range_with_len start k)) count ∙ ap (λ (k : ℕ). filter test (range_with_len k m)) on
skip test start (suc n) m none =
    let count : suc n + m ≡ suc (n + m) = omega (arith) in
    let first : test start ≡ false = (let on : start ≡ start + 0 = omega (arith) in ap test on ∙ none 0 (omega (arith))) in
    let there_on : start + 1 + n ≡ start + suc n = omega (arith) in
    ap (λ (k : ℕ). filter test (range_with_len start k)) count
    ∙ (kept test start (range_with_len (start + 1) (n + m)) false first
    ∙ (skip test (start + 1) n m (λ j less. let on : start + 1 + j ≡ start + suc j = omega (arith) in ap test on ∙ none (suc j) (omega (arith, less)))
    ∙ ap (λ (k : ℕ). filter test (range_with_len k m)) there_on))

stop : (test : ℕ → Bool) (start m r : ℕ) → ((j : ℕ) → m ≤ j → j < m + r → test (start + j) ≡ false) → filter test (range_with_len start (m + r)) ≡ filter test (range_with_len start m)
stop test start zero r none =
    let count : 0 + r ≡ r = omega (arith) in
    ap (λ (k : ℕ). filter test (range_with_len start k)) count ∙ none_in_range test start r (λ j less. none j (omega (arith)) (omega (arith, less)))
stop test start (suc m) r none =
    let count : suc m + r ≡ suc (m + r) = omega (arith) in
    let rest : List ℕ = range_with_len (start + 1) (m + r) in
    let later : filter test rest ≡ filter test (range_with_len (start + 1) m) =
    stop test (start + 1) m r (λ j low less. let on : start + 1 + j ≡ start + suc j = omega (arith) in ap test on ∙ none (suc j) (omega (arith, low)) (omega (arith, less))) in
    ap (λ (k : ℕ). filter test (range_with_len start k)) count ∙ ap (λ (ns : List ℕ). cond (test start) (start ∷ ns) ns) later

window : (test : ℕ → Bool) (n b m : ℕ) → b + m ≤ n → ((j : ℕ) → j < b → test j ≡ false) → ((j : ℕ) → b + m ≤ j → j < n → test j ≡ false) → filter test (range_with_len 0 n) ≡ filter test (range_with_len b m)
window test n b m within low high =
    let r : ℕ = n - (b + m) in
    let count : n ≡ b + (m + r) = omega (arith, within) in
    let zero_on : 0 + b ≡ b = omega (arith) in
    ap (λ (k : ℕ). filter test (range_with_len 0 k)) count
    ∙ (skip test 0 b (m + r) (λ j less. let on : 0 + j ≡ j = omega (arith) in ap test on ∙ low j less)
    ∙ (ap (λ (k : ℕ). filter test (range_with_len k (m + r))) zero_on
    ∙ stop test b m r (λ j more less. high (b + j) (omega (arith, more)) (omega (arith, less, within)))))

-- sums over them
passing_sum : {X : Type 0} (test : X → Bool) (by_number : ℕ → ℕ) (by_item : X → ℕ) (start : ℕ) (xs : List X) → ((k : ℕ) (x : X) → slice_get xs k ≡ Some x → by_number (start + k) ≡ by_item x)
    → sum_by by_number (passing test start xs) ≡ sum_by by_item (filter test xs)
passing_sum test by_number by_item start [] same = refl
passing_sum {X} test by_number by_item start (x ∷ xs) same =
    let here : by_number start ≡ by_item x = (let on : start ≡ start + 0 = omega (arith) in ap by_number on ∙ same 0 x refl) in
    let later : sum_by by_number (passing test (start + 1) xs) ≡ sum_by by_item (filter test xs) =
    passing_sum test by_number by_item (start + 1) xs (λ k y at. let on : start + 1 + k ≡ start + suc k = omega (arith) in ap by_number on ∙ same (suc k) y at) in
    elim (cases_Bool (test x)) [
      | inl is ↦
          let list : filter test (x ∷ xs) ≡ x ∷ filter test xs = ap (λ b. cond b (x ∷ filter test xs) (filter test xs)) is in
          let one = ap (sum_by by_number) (passing_cons test start x xs true is) ∙ sum_by-cons by_number start (passing test (start + 1) xs) in
          let other = ap (sum_by by_item) list ∙ sum_by-cons by_item x (filter test xs) in
          omega (arith, one, other, here, later)
      | inr is ↦ ap (sum_by by_number) (passing_cons test start x xs false is) ∙ (later ∙ sym (ap (λ b. sum_by by_item (cond b (x ∷ filter test xs) (filter test xs))) is))
    ]

-- words by another name
same_iterated : (kind : Kind) → tests.is_iterated kind ≡ kind_is_iterated kind
same_iterated Lag = refl
same_iterated Fresh = refl
same_iterated FreshIter = refl
same_iterated Iterated = refl

part_of_one : (z : ℤ) → is_in_range (Between 1 (10 ^ 6)) z ≡ true → tests.is_part_of_one z ≡ true
part_of_one (pos n) is = is
part_of_one (negsuc n) is = absurd (false≢true is)

-- numbers that are all the same as those of the other list
pointwise_same : (ns : List ℕ) → pointwise nat_eq ns ns ≡ true
pointwise_same [] = refl
pointwise_same (n ∷ ns) = and_from (nat_eq n n) (pointwise nat_eq ns ns) (eq-eqb n n refl) (pointwise_same ns)

components_same : (table : DataTable) (mesh : ℕ) → (cond (data_of table).vector mesh 1) ≡ components_by table.kind mesh
components_same table mesh = by_kind table.kind
  where
    by_kind : (kind : DataKind) → cond (is_vector kind) mesh 1 ≡ components_by kind mesh
    by_kind Scalar = refl
    by_kind Vector = refl

module _ (config : Config) (sound : IsSoundConfig config) (accepted : IsAccepted config) (nodes : List Node) where
  abbrev plan : PlanParts
  plan = plan_of config nodes

  abbrev all : List Exchange
  all = exchanges_of_all config

  -- an exchange's components are its entry's
  components_are : (s k : ℕ) (table : SchemeTable) (entry : ExchangeEntry) → slice_get config.scheme s ≡ Some table → slice_get table.exchange k ≡ Some entry
      → words.components_of plan (exchange_of config s table entry) ≡ components_of config entry
  components_are s k table entry at at_entry =
      let fit = fit_exchange config accepted s k table entry at at_entry in
      let item = some_there (named.data_called config entry.data_name) fit.data_declared in
      let mesh = some_there (named.mesh_called config entry.mesh) fit.mesh_declared in
      let at_item = map_at data_of config.data_list (data_number config entry.data_name) item.0 (table_at data_name config.data_list entry.data_name item.0 item.1).at in
      let at_mesh = map_at (mesh_of config) config.mesh (mesh_number config entry.mesh) mesh.0 (table_at mesh_name config.mesh entry.mesh mesh.0 mesh.1).at in
      let dims : unsigned_abs mesh.0.dimensions ≡ unsigned_abs (named.dimensions_of config entry.mesh) =
      ap unsigned_abs (sym (ap (λ (o : Option MeshTable). option_map_or (λ (t : MeshTable). t.dimensions) o (pos 0)) mesh.1)) in
      ap (λ o. option_map_or (λ n. n) (option_and_then (λ d. option_map (λ m. words.components d m) (slice_get (map (mesh_of config) config.mesh) (mesh_number config entry.mesh))) o) 0) at_item
      ∙ (ap (λ o. option_map_or (λ n. n) (option_map (λ m. words.components (data_of item.0) m) o) 0) at_mesh
      ∙ (ap (λ (n : ℕ). cond (data_of item.0).vector n 1) dims
      ∙ (components_same item.0 (unsigned_abs (named.dimensions_of config entry.mesh))
      ∙ sym (ap (λ (o : Option DataTable). option_map_or (λ (t : DataTable). components_by t.kind (unsigned_abs (named.dimensions_of config entry.mesh))) o 0) item.1))))

  module _ (s : ℕ) (table : SchemeTable) (at_scheme : slice_get config.scheme s ≡ Some table) (entry : AccelEntry) (fit : IsFitAcceleration config table entry) where
    abbrev before : ℕ
    before = exchanges_before config s

    abbrev over : List ℕ
    over = accelerated before table entry

    abbrev carried : List ℕ
    carried = tests.data_carried plan over

    abbrev ids_at : ℕ → List ℕ
    ids_at x = option_to_list (option_map (λ e. e.data_id) (slice_get all x))

    abbrev test : ExchangeEntry → Bool
    test = is_accelerated table entry

    at_place : (k : ℕ) (other : ExchangeEntry) → slice_get table.exchange k ≡ Some other → slice_get all (before + k) ≡ Some (exchange_of config s table other)
    at_place k other at = exchange_there config s k table other at_scheme at

    ids_of : (k : ℕ) (other : ExchangeEntry) → slice_get table.exchange k ≡ Some other → ids_at (before + k) ≡ data_number config other.data_name ∷ []
    ids_of k other at = ap (λ (o : Option Exchange). option_to_list (option_map (λ (e : Exchange). e.data_id) o)) (at_place k other at)

    -- what is carried is what is accelerated
    carried_from : (k : ℕ) (other : ExchangeEntry) → slice_get table.exchange k ≡ Some other → words.is_among (data_number config other.data_name) carried ≡ true → named.is_among other.data_name entry.data_list ≡ true
    carried_from k other at is =
        let found = from_flat ids_at over (data_number config other.data_name) (among_in (data_number config other.data_name) carried is) in
        let where_it_is = from_passing test before table.exchange found.0 found.1 in
        let there_is : ids_at found.0 ≡ data_number config where_it_is.item.data_name ∷ [] = ap ids_at where_it_is.number ∙ ids_of where_it_is.place where_it_is.item where_it_is.at in
        let same : data_number config where_it_is.item.data_name ≡ data_number config other.data_name =
        only_item (data_number config where_it_is.item.data_name) (data_number config other.data_name) (subst (λ (ns : List ℕ). Contains ns (data_number config other.data_name)) there_is found.2) in
        let one = fit_exchange config accepted s where_it_is.place table where_it_is.item at_scheme where_it_is.at in
        let two = fit_exchange config accepted s k table other at_scheme at in
        let names : where_it_is.item.data_name ≡ other.data_name =
        same_name data_name config.data_list where_it_is.item.data_name other.data_name (data_at config where_it_is.item.data_name one.data_declared) (data_at config other.data_name two.data_declared) same in
        ap (λ (name : List ℕ). named.is_among name entry.data_list) (sym names) ∙ (and_parts (named.is_among where_it_is.item.data_name entry.data_list) (is_iterated table where_it_is.item) where_it_is.holds).0
      where
        only_item : (n m : ℕ) → Contains (n ∷ []) m → n ≡ m
        only_item n m inside = elim (in_cons n [] m inside) [ inl same ↦ same | inr none ↦ absurd (omega (arith, none.1)) ]

    carried_to : (k : ℕ) (other : ExchangeEntry) → slice_get table.exchange k ≡ Some other → test other ≡ true → words.is_among (data_number config other.data_name) carried ≡ true
    carried_to k other at holds =
        in_among (data_number config other.data_name) carried
        (in_flat ids_at over (before + k) (data_number config other.data_name) (in_passing test before table.exchange k other at holds)
        (subst (λ (ns : List ℕ). Contains ns (data_number config other.data_name)) (sym (ids_of k other at)) (head_in (data_number config other.data_name) [])))

    abbrev by_number : ℕ → Bool
    by_number x = words.passes all x (λ e. nat_eq e.scheme s && words.is_among e.data_id carried) && words.passes all x (λ e. tests.is_iterated e.kind)

    both_tests : (b c d : Bool) → (b ≡ true → d ≡ true → c ≡ true) → (c ≡ true → d ≡ true → b ≡ true) → (b && d) ≡ (c && d)
    both_tests b c true there_on back = same_bool (b && true) (c && true) (λ is. and_from c true (there_on (and_parts b true is).0 refl) refl) (λ is. and_from b true (back (and_parts c true is).0 refl) refl)
    both_tests b c false there_on back = same_bool (b && false) (c && false) (λ is. absurd (false≢true (sym (never b) ∙ is))) (λ is. absurd (false≢true (sym (never c) ∙ is)))
      where
        never : (b : Bool) → (b && false) ≡ false
        never true = refl
        never false = refl

    own_number : (k : ℕ) (other : ExchangeEntry) → slice_get table.exchange k ≡ Some other → by_number (before + k) ≡ test other
    own_number k other at =
        let e : Exchange = exchange_of config s table other in
        let id : ℕ = data_number config other.data_name in
        let first : words.passes all (before + k) (λ x. nat_eq x.scheme s && words.is_among x.data_id carried) ≡ words.is_among id carried =
        ap (λ (o : Option Exchange). option_map_or (λ (x : Exchange). nat_eq x.scheme s && words.is_among x.data_id carried) o false) (at_place k other at) ∙ ap (λ b. b && words.is_among id carried) (eq-eqb s s refl) in
        let second : words.passes all (before + k) (λ x. tests.is_iterated x.kind) ≡ is_iterated table other =
        ap (λ (o : Option Exchange). option_map_or (λ (x : Exchange). tests.is_iterated x.kind) o false) (at_place k other at) ∙ same_iterated e.kind in
        ap (λ b. b && words.passes all (before + k) (λ x. tests.is_iterated x.kind)) first
        ∙ (ap (λ b. words.is_among id carried && b) second
        ∙ both_tests (words.is_among id carried) (named.is_among other.data_name entry.data_list) (is_iterated table other) (λ is _. carried_from k other at is)
        (λ is iterated. carried_to k other at (and_from (named.is_among other.data_name entry.data_list) (is_iterated table other) is iterated)))

    -- an exchange of no other scheme passes
    outside : (j : ℕ) → j < length all → ((k : ℕ) → k < length table.exchange → j ≡ before + k → ⊥) → by_number j ≡ false
    outside j less elsewhere =
        let item = there all j less in
        let at = exchange_from config j item.0 item.1 in
        let not_here : nat_eq at.scheme s ≡ false = fails_by (nat_eq at.scheme s) (λ is. let of = of_scheme config s table at_scheme j item.0 at is in elsewhere at.place (slice_get_within table.exchange at.place at.entry of.listed) of.number) in
        let first : words.passes all j (λ e. nat_eq e.scheme s && words.is_among e.data_id carried) ≡ false =
        ap (λ (o : Option Exchange). option_map_or (λ (e : Exchange). nat_eq e.scheme s && words.is_among e.data_id carried) o false) item.1
        ∙ (ap (λ (e : Exchange). nat_eq e.scheme s && words.is_among e.data_id carried) at.is ∙ ap (λ b. b && words.is_among (data_number config at.entry.data_name) carried) not_here) in
        ap (λ b. b && words.passes all j (λ e. tests.is_iterated e.kind)) first
      where
        fails_by : (b : Bool) → (b ≡ true → ⊥) → b ≡ false
        fails_by true no_way = absurd (no_way refl)
        fails_by false no_way = refl

    within : before + length table.exchange ≤ length all
    within = within_all config s table at_scheme

    listed : over ≡ filter (λ x. words.passes all x (λ e. tests.is_iterated e.kind)) (tests.carriers plan s carried)
    listed =
        passing_range test by_number before table.exchange own_number
        ∙ (sym (window by_number (length all) before (length table.exchange) within
        (λ j less. outside j (omega (arith, less, within)) (λ k more is. omega (arith, less, is)))
        (λ j high less. outside j less (λ k more is. omega (arith, high, more, is))))
        ∙ sym (filter_twice (λ x. words.passes all x (λ e. nat_eq e.scheme s && words.is_among e.data_id carried)) (λ x. words.passes all x (λ e. tests.is_iterated e.kind)) (range_with_len 0 (length all))))

    some_over : 1 ≤ length over
    some_over = first_name entry.data_list refl fit.some fit.relaxed
      where
        first_name : (names : List (List ℕ)) → entry.data_list ≡ names → 1 ≤ length names → All (λ name. relaxes table name ≡ true) names → 1 ≤ length over
        first_name [] is some relaxed = absurd (omega (arith, some))
        first_name (name ∷ names) is some relaxed =
            let found = any_found (λ other. bytes_eq other.data_name name && is_iterated table other) table.exchange (relaxed 0 name (omega (arith))) in
            let parts = and_parts (bytes_eq found.0.data_name name) (is_iterated table found.0) found.2 in
            let k : ℕ = found.1.0 in
            let at : slice_get table.exchange k ≡ Some found.0 = slice_get-get_or table.exchange k found.0 found.1.1 ∙ ap (λ (x : ExchangeEntry). Some x) found.1.2 in
            let here : named.is_among found.0.data_name entry.data_list ≡ true =
            ap (named.is_among found.0.data_name) is ∙ ap (λ b. b || named.is_among found.0.data_name names) (text_same found.0.data_name name (same_text found.0.data_name name parts.0)) in
            let inside = in_passing test before table.exchange k found.0 at (and_from (named.is_among found.0.data_name entry.data_list) (is_iterated table found.0) here parts.1) in
            omega (arith, inside.1)

    narrow : sum_by (λ x. sum_by (words.components_of plan) (option_to_list (slice_get all x))) over ≤ 20
    narrow =
        let same = passing_sum test (λ x. sum_by (words.components_of plan) (option_to_list (slice_get all x))) (components_of config) before table.exchange
        (λ k other at.
        ap (λ (o : Option Exchange). sum_by (words.components_of plan) (option_to_list o)) (at_place k other at)
        ∙ one_more (words.components_of plan (exchange_of config s table other)) (sum_by (words.components_of plan) (exchange_of config s table other ∷ [])) (components_of config other)
        (sum_by-cons (words.components_of plan) (exchange_of config s table other) []) (components_are s k table other at_scheme at)) in
        omega (arith, same, fit.narrow)
      where
        one_more : (n whole other : ℕ) → whole ≡ n + 0 → n ≡ other → whole ≡ other
        one_more n whole other is same = omega (arith, is, same)

    pub right : (z : ℤ) → is_in_range (Between 1 (10 ^ 6)) z ≡ true → (kinds.is_implicit (scheme_kind table.kind) && tests.is_part_of_one z && tests.are_accelerated plan s over) ≡ true
    right z range =
        let equal : pointwise nat_eq over (filter (λ x. words.passes all x (λ e. tests.is_iterated e.kind)) (tests.carriers plan s carried)) ≡ true = ap (pointwise nat_eq over) (sym listed) ∙ pointwise_same over in
        let sum : ℕ = sum_by (λ x. sum_by (words.components_of plan) (option_to_list (slice_get all x))) over in
        and_from (kinds.is_implicit (scheme_kind table.kind) && tests.is_part_of_one z) (tests.are_accelerated plan s over)
        (and_from (kinds.is_implicit (scheme_kind table.kind)) (tests.is_part_of_one z) fit.implicit (part_of_one z range))
        (and_from (nat_le 1 (length over) && pointwise nat_eq over (filter (λ x. words.passes all x (λ e. tests.is_iterated e.kind)) (tests.carriers plan s carried))) (nat_le sum 20)
        (and_from (nat_le 1 (length over)) (pointwise nat_eq over (filter (λ x. words.passes all x (λ e. tests.is_iterated e.kind)) (tests.carriers plan s carried))) (le-leb 1 (length over) some_over) equal)
        (le-leb sum 20 narrow))

    pub by_word : (word : AccelWord) → is_in_range (Between 1 (10 ^ 6)) entry.factor ≡ true → tests.is_acceleration plan s (scheme_of config before table) (accel_by word before table entry) ≡ true
    by_word A.Constant range = right entry.factor range
    by_word A.Aitken range = right entry.factor range

  by_entry : (s : ℕ) (table : SchemeTable) → slice_get config.scheme s ≡ Some table → (o : Option AccelEntry) → IfSome o (IsFitAcceleration config table) → IfSome o IsSoundAcceleration
      → tests.is_acceleration plan s (scheme_of config (exchanges_before config s) table) (accel_of (exchanges_before config s) table o) ≡ true
  by_entry s table at None fit is = refl
  by_entry s table at (Some entry) fit is = by_word s table at entry fit entry.kind is.factor

  pub accelerations : tests.have_accelerations plan ≡ true
  accelerations = each_numbered (λ (numbered : ℕ × SchemeTable). scheme_of config (exchanges_before config numbered.0) numbered.1) config.scheme (λ s scheme. tests.is_acceleration plan s scheme scheme.accel)
      (λ s table at. by_entry s table at table.acceleration (all_at (λ (t : SchemeTable). IfSome t.acceleration (IsFitAcceleration config t)) config.scheme s table (facts.accelerations config accepted) at)
      (all_at IsSoundScheme config.scheme s table sound.schemes at).acceleration)
