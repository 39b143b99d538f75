-- Schemes of the plan of an accepted configuration: members, iterations, measures and the first participant's step.
use Rattle.std.proofs.Common.{◌≡◌, ℕ, ◌+◌, ◌^◌, ◌<◌, ◌≤◌, Bool, true, false, ◌&&◌, ◌||◌, cond, nat_eq, nat_le, List, [], ◌∷◌, ◌++◌, length, map, Option, Some, None, All, refl, ap, sym, ◌∙◌, arith}
use Rattle.std.specs.Prelude.{slice_get, filter, unwrap_or, unsigned_abs, pos, negsuc, ℤ, nat_lt, int_le}
use Rattle.std.specs.List.{list_all, range_with_len}
use Rattle.std.specs.Str.{bytes_eq}
use Rattle.std.proofs.lemmas.Bool.{and_from, and_parts, eq-eqb, eqb-true, lt-ltb, le-leb, false≢true}
use Rattle.std.proofs.lemmas.Option.{slice_get_within}
use Rattle.std.proofs.lemmas.List.{length-map}
use Rattle.std.proofs.lemmas.List.Elements.{All-weaker}
use Rattle.cpl_tables.specs.Values.{is_in_range}
use Rattle.cpl_tables.specs.declared.shapes.Range.TheVariants.{Between}
use Rattle.cpl_config.specs.declared.kind_words.KindWord.{KindWord}
use Rattle.cpl_config.specs.declared.kind_words.KindWord.TheVariants.{SerialExplicit, ParallelExplicit, SerialImplicit, ParallelImplicit, Multi}
use Rattle.cpl_config.specs.declared.config.Config.{Config}
use Rattle.cpl_config.specs.declared.config.SchemeTable.{SchemeTable}
use Rattle.cpl_config.specs.declared.config.ExchangeEntry.{ExchangeEntry}
use Rattle.cpl_config.specs.declared.config.MeasureEntry.{MeasureEntry}
use Rattle.cpl_config.specs.SoundConfig.{IsSoundConfig, IsSoundScheme, IsSoundMeasure}
use Rattle.cpl_plan.specs.declared.parts.PlanParts.{PlanParts}
use Rattle.cpl_plan.specs.declared.parts.Exchange.{Exchange}
use Rattle.cpl_plan.specs.declared.parts.Scheme.{Scheme}
use Rattle.cpl_plan.specs.PlanWords as words
use Rattle.cpl_plan.specs.PlanTests as tests
use Rattle.cpl_plan.proofs.Readings.{at_passes, passes_at}
use Rattle.plan_order.specs.declared.node.Node.{Node}
use Rattle.config_rules.specs.ConfigRules.{IsAccepted}
use Rattle.config_rules.specs.Circles.{number_of}
use Rattle.config_rules.specs.Members.{is_implicit, is_multi, kind_is_multi, scheme_kind, members, name_there}
use Rattle.config_laws.specs.FitNumbers.{HasFewIterations, least_iterations}
use Rattle.config_laws.specs.FitSchemes.{HasTwo, HasMany, IsFitScheme, IsFitMeasure, RepeatsWindows, RunsOnce}
use Rattle.config_laws.proofs.NumberFacts.{iterations}
use Rattle.config_laws.proofs.OnceFacts.{listed_once}
use Rattle.config_laws.proofs.Truths.{fails}
use Rattle.config_laws.proofs.WholeFacts as facts
use Rattle.cpl_tables.specs.Values.{are_distinct_texts}
use Rattle.scheme_parts.specs.NumbersOf.{data_number, part_number, exchanges_before}
use Rattle.scheme_parts.specs.ExchangeOf.{exchange_of}
use Rattle.scheme_parts.specs.MeasureOf.{measure_of, first_carrier}
use Rattle.scheme_parts.specs.SchemeOf.{scheme_of, greatest_iterations}
use Rattle.scheme_parts.proofs.Tables.{same_some, all_at, all_map, each_numbered, found_passes, found_place}
use Rattle.scheme_parts.proofs.NamedTables.{HasTable, within, distinct_same, same_name}
use Rattle.scheme_parts.proofs.Ranges.{first_in_range, before_place}
use Rattle.plan_build.specs.PartOf.{part_of}
use Rattle.plan_build.specs.PlanOf.{plan_of, exchanges_of_all}
use Rattle.plan_build.proofs.PlanReadings.{data_name, part_name, each_of, data_at, part_all, members_declared}
use Rattle.plan_build.proofs.ExchangePlaces.{IsExchangeAt, exchange_from, exchange_there}
use Rattle.plan_build.proofs.ExchangeFacts.{two_are}
use Rattle.plan_build.proofs.FitAt.{fit_at, fit_exchange}

-- what is chosen passes
choose : (b x y : Bool) → (b ≡ true → x ≡ true) → (b ≡ false → y ≡ true) → cond b x y ≡ true
choose true x y first second = first refl
choose false x y first second = second refl

counted : (word : KindWord) (n : ℕ) → (kind_is_multi word ≡ false → n ≡ 2) → (kind_is_multi word ≡ true → 2 ≤ n) → tests.has_members (scheme_kind word) n ≡ true
counted SerialExplicit n two many = eq-eqb n 2 (two refl)
counted ParallelExplicit n two many = eq-eqb n 2 (two refl)
counted SerialImplicit n two many = eq-eqb n 2 (two refl)
counted ParallelImplicit n two many = eq-eqb n 2 (two refl)
counted Multi n two many = le-leb 2 n (many refl)

many_are : (first second : Option (List ℕ)) (listed : Option (List (List ℕ))) (names : List (List ℕ)) → first ≡ None → second ≡ None → listed ≡ Some names → name_there first ++ name_there second ++ unwrap_or listed [] ≡ names
many_are first second listed names none none' is =
    ap (λ (o : Option (List ℕ)). name_there o ++ name_there second ++ unwrap_or listed []) none
    ∙ (ap (λ (o : Option (List ℕ)). [] ++ name_there o ++ unwrap_or listed []) none' ∙ ap (λ (o : Option (List (List ℕ))). [] ++ [] ++ unwrap_or o []) is)

in_limits : (z : ℤ) → is_in_range (Between 0 (10 ^ 13)) z ≡ true → (int_le (pos 0) z && int_le z (pos (10 ^ 13))) ≡ true
in_limits (pos n) is = is
in_limits (negsuc n) is = absurd (false≢true is)

-- an exchange of a scheme's number is one of its entries
pub record IsOfScheme (config : Config) (s : ℕ) (table : SchemeTable) (x : ℕ) (e : Exchange) (at : IsExchangeAt config x e) : Type 0 where
  pub number : x ≡ exchanges_before config s + at.place
  pub listed : slice_get table.exchange at.place ≡ Some at.entry
  pub made : e ≡ exchange_of config s table at.entry

pub of_scheme : (config : Config) (s : ℕ) (table : SchemeTable) → slice_get config.scheme s ≡ Some table → (x : ℕ) (e : Exchange) (at : IsExchangeAt config x e) → nat_eq at.scheme s ≡ true → IsOfScheme config s table x e at
of_scheme config s table at_scheme x e at is =
    let same : at.scheme ≡ s = eqb-true at.scheme s is in
    let tables : at.table ≡ table = same_some (sym at.at_scheme ∙ (ap (slice_get config.scheme) same ∙ at_scheme)) in
    record {
      number = at.number ∙ ap (λ (n : ℕ). exchanges_before config n + at.place) same;
      listed = sym (ap (λ (t : SchemeTable). slice_get t.exchange at.place) tables) ∙ at.at_entry;
      made = at.is ∙ (ap (λ (n : ℕ). exchange_of config n at.table at.entry) same ∙ ap (λ (t : SchemeTable). exchange_of config s t at.entry) tables);
    }

-- what a scheme's kind asks of it
pub record Known (table : SchemeTable) : Type 0 where
  pub two : is_multi table ≡ false → HasTwo table
  pub many : is_multi table ≡ true → HasMany table
  pub implicit : is_implicit table ≡ true → RepeatsWindows table
  pub explicit : is_implicit table ≡ false → RunsOnce table

module _ (config : Config) (sound : IsSoundConfig config) (accepted : IsAccepted config) (nodes : List Node) where
  abbrev plan : PlanParts
  plan = plan_of config nodes

  abbrev make : ℕ × SchemeTable → Scheme
  make = λ numbered. scheme_of config (exchanges_before config numbered.0) numbered.1

  names_there : (s : ℕ) (table : SchemeTable) → slice_get config.scheme s ≡ Some table → All (HasTable part_name config.participant) (members table)
  names_there s table at = part_all config (members table) (members_declared config accepted s table at)

  pub members_there : tests.are_members_declared plan ≡ true
  members_there = each_numbered make config.scheme (λ _ scheme. list_all (λ p. nat_lt p (length (map (part_of config) config.participant))) scheme.members)
      (λ s table at. all_map (number_of config) (λ p. nat_lt p (length (map (part_of config) config.participant))) (members table)
      (All-weaker (HasTable part_name config.participant) (λ name. nat_lt (part_number config name) (length (map (part_of config) config.participant)) ≡ true)
      (λ name has. lt-ltb (part_number config name) (length (map (part_of config) config.participant)) (omega (arith, within part_name config.participant name has, length-map config.participant (part_of config))))
      (members table) (names_there s table at)))

  pub members_once : tests.are_members_once plan ≡ true
  members_once = each_numbered make config.scheme (λ _ scheme. words.are_distinct nat_eq scheme.members)
      (λ s table at. distinct_same part_name config.participant (members table) (names_there s table at)
      ∙ all_at (λ (t : SchemeTable). are_distinct_texts (members t) ≡ true) config.scheme s table (listed_once config sound accepted) at)

  pub known : (s : ℕ) (table : SchemeTable) → slice_get config.scheme s ≡ Some table → Known table
  known s table at = all_at Known config.scheme s table
      (each_of (IsFitScheme config) Known config.scheme (λ before t fit. record { two = fit.two; many = fit.many; implicit = fit.implicit; explicit = fit.explicit }) (facts.schemes config accepted)) at

  pub members_counted : tests.are_members_counted plan ≡ true
  members_counted = each_numbered make config.scheme (λ _ scheme. tests.has_members scheme.kind (length scheme.members))
      (λ s table at.
      let fit : Known table = known s table at in
      let long : length (map (number_of config) (members table)) ≡ length (members table) = length-map (members table) (number_of config) in
      counted table.kind (length (map (number_of config) (members table)))
      (λ single. let two = fit.two single in
      long ∙ ap (length {A = List ℕ}) (two_are table.first table.second table.members two.first two.second two.first_told two.second_told two.no_list))
      (λ several. let many = fit.many several in
      omega (arith, long, many.two_or_more, ap (length {A = List ℕ}) (many_are table.first table.second table.members many.names many.no_first many.no_second many.names_told))))

  pub iterate : tests.have_iterations plan ≡ true
  iterate = each_numbered make config.scheme (λ _ scheme. tests.has_iterations scheme)
      (λ s table at.
      let fit : Known table = known s table at in
      let least : ℕ = least_iterations table in
      let most : ℕ = greatest_iterations table in
      choose (is_implicit table) (nat_le 1 least && nat_le least most && nat_le most (10 ^ 3)) (nat_eq least 1 && nat_eq most 1)
      (λ is.
      let few : HasFewIterations table = all_at (λ (t : SchemeTable). is_implicit t ≡ true → HasFewIterations t) config.scheme s table (iterations config sound accepted) at is in
      let told : most ≡ unsigned_abs few.greatest = ap (λ (o : Option ℤ). unsigned_abs (unwrap_or o (pos 1))) few.told in
      and_from (nat_le 1 least && nat_le least most) (nat_le most (10 ^ 3)) (and_from (nat_le 1 least) (nat_le least most) (le-leb 1 least few.one) (le-leb least most (omega (arith, few.in_order, told))))
      (le-leb most (10 ^ 3) (omega (arith, few.few, told))))
      (λ is.
      let once : RunsOnce table = fit.explicit is in
      and_from (nat_eq least 1) (nat_eq most 1) (eq-eqb least 1 (ap (λ (o : Option ℤ). unsigned_abs (unwrap_or o (pos 1))) once.no_least)) (eq-eqb most 1 (ap (λ (o : Option ℤ). unsigned_abs (unwrap_or o (pos 1))) once.no_greatest))))

  sound_scheme : (s : ℕ) (table : SchemeTable) → slice_get config.scheme s ≡ Some table → IsSoundScheme table
  sound_scheme s table at = all_at IsSoundScheme config.scheme s table sound.schemes at

  pub measured : tests.have_measures plan ≡ true
  measured = each_numbered make config.scheme (λ _ scheme. tests.has_measures scheme)
      (λ s table at.
      let fit : Known table = known s table at in
      let n : ℕ = length (map (measure_of (exchanges_before config s) table) table.measure) in
      let long : n ≡ length table.measure = length-map table.measure (measure_of (exchanges_before config s) table) in
      choose (is_implicit table) (nat_le 1 n && nat_le n 16) (nat_eq n 0)
      (λ is. and_from (nat_le 1 n) (nat_le n 16) (le-leb 1 n (omega (arith, (fit.implicit is).measured, long))) (le-leb n 16 (omega (arith, (sound_scheme s table at).few_measures, long))))
      (λ is. eq-eqb n 0 (long ∙ ap (length {A = MeasureEntry}) (fit.explicit is).no_measures)))

  pub limits : tests.have_limits plan ≡ true
  limits = each_numbered make config.scheme (λ _ scheme. list_all (λ m. int_le (pos 0) m.limit && int_le m.limit (pos (10 ^ 13))) scheme.measures)
      (λ s table at. all_map (measure_of (exchanges_before config s) table) (λ m. int_le (pos 0) m.limit && int_le m.limit (pos (10 ^ 13))) table.measure
      (All-weaker IsSoundMeasure (λ (entry : MeasureEntry). (int_le (pos 0) entry.limit && int_le entry.limit (pos (10 ^ 13))) ≡ true) (λ entry is. in_limits entry.limit is.limit) table.measure (sound_scheme s table at).measures))

  -- a measure looks at the first exchange of its data
  looks : (s : ℕ) (table : SchemeTable) (entry : MeasureEntry) → slice_get config.scheme s ≡ Some table → IsFitMeasure config table entry → tests.looks_at_the_first plan s (measure_of (exchanges_before config s) table entry) ≡ true
  looks s table entry at_scheme fit =
      let has : ExchangeEntry → Bool = λ other. bytes_eq other.data_name entry.data_name in
      let all : List Exchange = exchanges_of_all config in
      let place = found_place has table.exchange fit.exchange fit.first in
      let k : ℕ = place.0 in
      let x : ℕ = exchanges_before config s + first_carrier table entry.data_name in
      let number : x ≡ exchanges_before config s + k = ap (λ (o : Option ℕ). exchanges_before config s + unwrap_or o 0) place.1 in
      let one : Exchange = exchange_of config s table fit.exchange in
      let at_x : slice_get all x ≡ Some one = ap (slice_get all) number ∙ exchange_there config s k table fit.exchange at_scheme place.2 in
      let id : ℕ = data_number config fit.exchange.data_name in
      let test : ℕ → Bool = λ y. words.passes all y (λ e. nat_eq e.scheme s && words.is_among e.data_id (id ∷ [])) in
      let own = fit_exchange config accepted s k table fit.exchange at_scheme place.2 in
      let holds : test x ≡ true = at_passes all x (λ e. nat_eq e.scheme s && words.is_among e.data_id (id ∷ [])) one at_x
      (and_from (nat_eq s s) (nat_eq id id || false) (eq-eqb s s refl) (ap (λ b. b || false) (eq-eqb id id refl))) in
      let less : x < length all = slice_get_within all x one at_x in
      let never : (j : ℕ) → j < x → test j ≡ true → ⊥ =
      λ j more is.
      let passed = passes_at all j (λ e. nat_eq e.scheme s && words.is_among e.data_id (id ∷ [])) is in
      let at = exchange_from config j passed.0 passed.1 in
      let parts = and_parts (nat_eq passed.0.scheme s) (nat_eq id passed.0.data_id || false) passed.2 in
      let here : nat_eq at.scheme s ≡ true = sym (ap (λ (e : Exchange). nat_eq e.scheme s) at.is) ∙ parts.0 in
      let of = of_scheme config s table at_scheme j passed.0 at here in
      let ids : data_number config at.entry.data_name ≡ id = sym (ap (λ (e : Exchange). e.data_id) at.is) ∙ sym (eqb-true id passed.0.data_id (or_false (nat_eq id passed.0.data_id) parts.1)) in
      let fit_there = fit_at config accepted j passed.0 at in
      let names : at.entry.data_name ≡ fit.exchange.data_name =
      same_name data_name config.data_list at.entry.data_name fit.exchange.data_name (data_at config at.entry.data_name fit_there.data_declared) (data_at config fit.exchange.data_name own.data_declared) ids in
      let earlier : at.place < k = omega (arith, more, number, of.number) in
      let fails_there : has at.entry ≡ false = before_place has table.exchange k place.1 at.place at.entry earlier of.listed in
      let found : has fit.exchange ≡ true = found_passes has table.exchange fit.exchange fit.first in
      false≢true (sym fails_there ∙ (ap (λ (name : List ℕ). bytes_eq name entry.data_name) names ∙ found)) in
      let zero_on : (n : ℕ) → 0 + n ≡ n = λ n. omega (arith) in
      let first : slice_get (filter test (range_with_len 0 (length all))) 0 ≡ Some (0 + x) =
      first_in_range test 0 (length all) x less (ap test (zero_on x) ∙ holds) (λ j more. ap test (zero_on j) ∙ fails (test j) (never j more)) in
      at_passes all x (λ e. words.passes (tests.carriers plan s (e.data_id ∷ [])) 0 (nat_eq x)) one at_x
      (at_passes (filter test (range_with_len 0 (length all))) 0 (nat_eq x) (0 + x) first (eq-eqb x (0 + x) (sym (zero_on x))))
    where
      or_false : (b : Bool) → (b || false) ≡ true → b ≡ true
      or_false true is = refl
      or_false false is = is

  pub measured_first : tests.are_measured_first plan ≡ true
  measured_first = each_numbered make config.scheme (λ s scheme. list_all (tests.looks_at_the_first plan s) scheme.measures)
      (λ s table at. all_map (measure_of (exchanges_before config s) table) (tests.looks_at_the_first plan s) table.measure
      (All-weaker (IsFitMeasure config table) (λ (entry : MeasureEntry). tests.looks_at_the_first plan s (measure_of (exchanges_before config s) table entry) ≡ true) (λ entry fit. looks s table entry at fit) table.measure
      (all_at (λ (t : SchemeTable). All (IsFitMeasure config t) t.measure) config.scheme s table (facts.measures config accepted) at)))
