-- The schemes of a valid plan, read back from the configuration that it is written as.
use Rattle.std.proofs.Common.{◌≡◌, ℕ, ◌+◌, Bool, true, false, ◌&&◌, ◌||◌, nat_eq, nat_lt, cond, List, [], ◌∷◌, map, Option, Some, None, Contains, ℤ, pos, refl, ap, ap₂, sym, subst, ◌∙◌, arith}
use Rattle.std.specs.Prelude.{slice_get, position, filter, count_by, unsigned_abs, unwrap_or}
use Rattle.std.specs.Option.{option_map_or}
use Rattle.std.specs.List.{enumerate_from}
use Rattle.std.specs.Str.{bytes_eq}
use Rattle.std.proofs.lemmas.Bool.{and_parts, eqb-true}
use Rattle.std.proofs.lemmas.Option.{slice_get_within}
use Rattle.cpl_plan.specs.declared.parts.PlanParts.{PlanParts}
use Rattle.cpl_plan.specs.declared.parts.Exchange.{Exchange}
use Rattle.cpl_plan.specs.declared.parts.Scheme.{Scheme}
use Rattle.cpl_plan.specs.declared.parts.SchemeKind.{SchemeKind}
use Rattle.cpl_plan.specs.declared.parts.Measure.{Measure}
use Rattle.cpl_plan.specs.declared.parts.MeasureKind.{MeasureKind}
use Rattle.cpl_plan.specs.declared.parts.MeasureKind.TheVariants.{Absolute, Relative, ResidualRelative}
use Rattle.cpl_plan.specs.declared.parts.Accel.{Accel}
use Rattle.cpl_plan.specs.declared.parts.Accel.TheVariants as A
use Rattle.cpl_plan.specs.ExchangeKinds as kinds
use Rattle.cpl_plan.specs.PlanWords.{is_among, passes, numbers}
use Rattle.cpl_plan.specs.PlanTests.{carriers, is_iterated, data_carried, are_accelerated, is_acceleration, looks_at_the_first}
use Rattle.cpl_plan.specs.ValidPlan.{IsValidPlan}
use Rattle.cpl_plan.proofs.Readings.{each_at, passes_at}
use Rattle.cpl_config.specs.declared.config.Config.{Config}
use Rattle.cpl_config.specs.declared.config.SchemeTable.{SchemeTable}
use Rattle.cpl_config.specs.declared.config.ExchangeEntry.{ExchangeEntry}
use Rattle.cpl_config.specs.declared.config.AccelEntry.{AccelEntry}
use Rattle.cpl_config.specs.declared.kind_words.AccelWord.{AccelWord}
use Rattle.cpl_config.specs.declared.kind_words.AccelWord.TheVariants as K
use Rattle.config_rules.specs.SchemeRules.{is_accelerated}
use Rattle.scheme_parts.specs.NumbersOf.{exchanges_before}
use Rattle.scheme_parts.specs.MeasureOf.{measure_kind, first_carrier, measure_of}
use Rattle.scheme_parts.specs.AccelOf.{accelerated, accel_of}
use Rattle.scheme_parts.specs.SchemeOf.{scheme_of}
use Rattle.plan_build.specs.PlanOf.{schemes_of}
use Rattle.plan_laws.specs.PlanNames.{data_name, carried_name}
use Rattle.plan_laws.specs.PlanSchemes.{measure_word, exchange_entry, exchanges_of, measure_entry, accelerated_data, accel_entry, scheme_table}
use Rattle.plan_laws.specs.ConfigOfPlan.{config_of_plan}
use Rattle.plan_laws.proofs.Lists.{in_at, at_mapped, from_mapped, passes_each, filter_filter, filter_same, map_twice}
use Rattle.plan_laws.proofs.Positions.{position_at, map_back, enumerated_map, enumerated_in, enumerated_items, passing_numbers, first_number, together, numbered_map, numbered_same, map_same}
use Rattle.plan_laws.proofs.Distinct.{turned}
use Rattle.plan_laws.proofs.Known.{data_tell}
use Rattle.plan_laws.proofs.Tables.{kind_back}
use Rattle.plan_laws.proofs.Exchanges.{known_in, in_scheme}
use Rattle.plan_laws.proofs.MeasuresFit.{over_is, accelerated_is}
use Rattle.plan_laws.proofs.Cycles.{numbers_are}
use Rattle.plan_laws.proofs.ExchangesBack.{before_is}

measure_back : (kind : MeasureKind) → measure_kind (measure_word kind) ≡ kind
measure_back Absolute = refl
measure_back Relative = refl
measure_back ResidualRelative = refl

-- numbers of iterations

record AreBack (implicit : Bool) (min max : ℕ) : Type 0 where
  least : unsigned_abs (unwrap_or (cond implicit (Some (pos min)) None) (pos 1)) ≡ min
  greatest : unsigned_abs (unwrap_or (cond implicit (Some (pos max)) None) (pos 1)) ≡ max

iterations_back : (implicit : Bool) (min max : ℕ) (more : Bool) → cond implicit more (nat_eq min 1 && nat_eq max 1) ≡ true → AreBack implicit min max
iterations_back true min max more holds = record { least = refl; greatest = refl }
iterations_back false min max more holds =
    let parts = and_parts (nat_eq min 1) (nat_eq max 1) holds in
    record { least = sym (eqb-true min 1 parts.0); greatest = sym (eqb-true max 1 parts.1) }

module _ (plan : PlanParts) (valid : IsValidPlan plan) where
  abbrev config : Config
  config = config_of_plan plan

  -- the exchanges of a scheme by their numbers

  module _ (s : ℕ) (scheme : Scheme) (is : slice_get plan.schemes s ≡ Some scheme) where
    of_scheme : (p : Exchange → Bool) → map (λ (entry : ℕ × Exchange). entry.0) (filter (λ entry. p entry.1) (enumerate_from (exchanges_before config s) (exchanges_of plan s)))
        ≡ filter (λ x. passes plan.exchanges x (λ e. nat_eq e.scheme s && p e)) (numbers plan.exchanges)
    of_scheme p =
        let start : 0 + count_by (λ (e : Exchange). nat_lt e.scheme s) plan.exchanges ≡ exchanges_before config s =
        let count = before_is plan valid s (let within = slice_get_within plan.schemes s scheme is in omega (arith, within)) in omega (arith, count) in
        let blocks : filter (λ (entry : ℕ × Exchange). nat_eq entry.1.scheme s) (enumerate_from 0 plan.exchanges) ≡ enumerate_from (exchanges_before config s) (exchanges_of plan s) =
        together (λ (e : Exchange). e.scheme) s 0 plan.exchanges valid.exchanges.by_scheme ∙ ap (λ (n : ℕ). enumerate_from n (exchanges_of plan s)) start in
        ap (λ (entries : List (ℕ × Exchange)). map (λ (entry : ℕ × Exchange). entry.0) (filter (λ entry. p entry.1) entries)) (sym blocks)
        ∙ (ap (map (λ (entry : ℕ × Exchange). entry.0)) (filter_filter (λ (entry : ℕ × Exchange). nat_eq entry.1.scheme s) (λ (entry : ℕ × Exchange). p entry.1) (enumerate_from 0 plan.exchanges))
        ∙ passing_numbers (λ (e : Exchange). nat_eq e.scheme s && p e) plan.exchanges)

    -- the first exchange that carries a measure's data

    measure_is_back : (measure : Measure) → looks_at_the_first plan s measure ≡ true → measure_of (exchanges_before config s) (scheme_table plan s scheme) (measure_entry plan measure) ≡ measure
    measure_is_back measure holds =
        let at = passes_at plan.exchanges measure.exchange (λ (e : Exchange). passes (carriers plan s (e.data_id ∷ [])) 0 (nat_eq measure.exchange)) holds in
        let d : ℕ = at.0.data_id in
        let name : carried_name plan measure.exchange ≡ data_name plan d = ap (λ (o : Option Exchange). option_map_or (λ (e : Exchange). data_name plan e.data_id) o []) at.1 in
        let first = passes_at (carriers plan s (d ∷ [])) 0 (nat_eq measure.exchange) at.2 in
        let number : first.0 ≡ measure.exchange = sym (eqb-true measure.exchange first.0 first.2) in
        let kept : slice_get (map (λ (entry : ℕ × Exchange). entry.0) (filter (λ entry. is_among entry.1.data_id (d ∷ [])) (enumerate_from (exchanges_before config s) (exchanges_of plan s)))) 0 ≡ Some measure.exchange =
        ap (λ (ns : List ℕ). slice_get ns 0) (of_scheme (λ (e : Exchange). is_among e.data_id (d ∷ []))) ∙ (first.1 ∙ ap (λ (n : ℕ). Some n) number) in
        let found = first_number (λ (e : Exchange). is_among e.data_id (d ∷ [])) (exchanges_before config s) (exchanges_of plan s) measure.exchange kept in
        let own = known_in plan valid at.0 (in_at plan.exchanges measure.exchange at.0 at.1) in
        let test : ExchangeEntry → Bool = λ entry. bytes_eq entry.data_name (carried_name plan measure.exchange) in
        let told : (e : Exchange) → Contains (exchanges_of plan s) e → test (exchange_entry plan e) ≡ is_among e.data_id (d ∷ []) =
        λ e inside. ap (bytes_eq (data_name plan e.data_id)) name ∙ (data_tell plan valid e.data_id d (known_in plan valid e (in_scheme plan valid s e inside).0).on.data_within own.on.data_within ∙ one_of (nat_eq e.data_id d) (nat_eq d e.data_id) (turned e.data_id d)) in
        let place : position test (map (exchange_entry plan) (exchanges_of plan s)) ≡ Some found.place =
        position_at test (map (exchange_entry plan) (exchanges_of plan s)) found.place (exchange_entry plan found.item) (at_mapped (exchange_entry plan) (exchanges_of plan s) found.place found.item found.at)
        (told found.item (in_at (exchanges_of plan s) found.place found.item found.at) ∙ found.holds)
        (λ k entry below entry_at.
        let of = from_mapped (exchange_entry plan) (exchanges_of plan s) k entry entry_at in
        subst (λ (t : ExchangeEntry). test t ≡ false) of.2 (told of.0 (in_at (exchanges_of plan s) k of.0 of.1) ∙ found.earlier k of.0 below of.1)) in
        let exchange : exchanges_before config s + first_carrier (scheme_table plan s scheme) (carried_name plan measure.exchange) ≡ measure.exchange =
        ap (λ (o : Option ℕ). exchanges_before config s + unwrap_or o 0) place ∙ found.number in
        ap₂ (λ (kind : MeasureKind) (x : ℕ). record measure { kind = kind; exchange = x }) (measure_back measure.kind) exchange
      where
        one_of : (a b : Bool) → a ≡ b → a ≡ (b || false)
        one_of true true is = refl
        one_of false false is = refl
        one_of true false is = cc
        one_of false true is = cc

    -- the accelerated exchanges

    module _ (over : List ℕ) (holds : are_accelerated plan s over ≡ true) where
      over_back : (kind : AccelWord) (factor : ℤ) → accelerated (exchanges_before config s) (scheme_table plan s scheme) (record { kind = kind; factor = factor; data_list = map (data_name plan) (accelerated_data plan over) }) ≡ over
      over_back kind factor =
          let entry : AccelEntry = record { kind = kind; factor = factor; data_list = map (data_name plan) (accelerated_data plan over) } in
          let Both : Exchange → Bool = λ e. is_among e.data_id (data_carried plan over) && is_iterated e.kind in
          let Test : Exchange → Bool = λ e. is_accelerated (scheme_table plan s scheme) entry (exchange_entry plan e) in
          numbered_map (is_accelerated (scheme_table plan s scheme) entry) (exchange_entry plan) (exchanges_before config s) (exchanges_of plan s)
          ∙ (numbered_same Test Both (exchanges_before config s) (exchanges_of plan s) (accelerated_is plan valid s scheme is over holds kind factor)
          ∙ (of_scheme Both
          ∙ (filter_same (λ x. passes plan.exchanges x (λ (e : Exchange). nat_eq e.scheme s && Both e)) (λ x. passes plan.exchanges x (λ (e : Exchange). nat_eq e.scheme s && is_among e.data_id (data_carried plan over)) && passes plan.exchanges x (λ (e : Exchange). is_iterated e.kind)) (numbers plan.exchanges) (λ x inside. split (slice_get plan.exchanges x))
          ∙ (sym (filter_filter (λ x. passes plan.exchanges x (λ (e : Exchange). nat_eq e.scheme s && is_among e.data_id (data_carried plan over))) (λ x. passes plan.exchanges x (λ (e : Exchange). is_iterated e.kind)) (numbers plan.exchanges))
          ∙ sym (over_is plan valid s scheme is over holds)))))
        where
          associates : (a b c : Bool) → (a && (b && c)) ≡ ((a && b) && c)
          associates true b c = refl
          associates false b c = refl

          split : (o : Option Exchange) → option_map_or (λ (e : Exchange). nat_eq e.scheme s && (is_among e.data_id (data_carried plan over) && is_iterated e.kind)) o false
              ≡ (option_map_or (λ (e : Exchange). nat_eq e.scheme s && is_among e.data_id (data_carried plan over)) o false && option_map_or (λ (e : Exchange). is_iterated e.kind) o false)
          split None = refl
          split (Some e) = associates (nat_eq e.scheme s) (is_among e.data_id (data_carried plan over)) (is_iterated e.kind)

    accel_back : (accel : Accel) → is_acceleration plan s scheme accel ≡ true → accel_of (exchanges_before config s) (scheme_table plan s scheme) (accel_entry plan accel) ≡ accel
    accel_back A.None holds = refl
    accel_back (A.Constant factor over) holds = ap (A.Constant factor) (over_back over (and_parts _ _ holds).1 K.Constant factor)
    accel_back (A.Aitken factor over) holds = ap (A.Aitken factor) (over_back over (and_parts _ _ holds).1 K.Aitken factor)

    -- a scheme

    scheme_back : scheme_of config (exchanges_before config s) (scheme_table plan s scheme) ≡ scheme
    scheme_back =
        let start : Scheme = scheme_of config (exchanges_before config s) (scheme_table plan s scheme) in
        let counts = iterations_back (kinds.is_implicit scheme.kind) scheme.min scheme.max _ (each_at _ plan.schemes valid.schemes.iterations s scheme is) in
        let measures : map (measure_of (exchanges_before config s) (scheme_table plan s scheme)) (map (measure_entry plan) scheme.measures) ≡ scheme.measures =
        map_back (measure_of (exchanges_before config s) (scheme_table plan s scheme)) (measure_entry plan) scheme.measures (λ measure inside.
        measure_is_back measure (passes_each (looks_at_the_first plan s) scheme.measures (each_at _ plan.schemes valid.schemes.measured_first s scheme is) measure inside)) in
        ap₂ (λ (kind : SchemeKind) (members : List ℕ). record start { kind = kind; members = members }) (kind_back scheme.kind) (numbers_are plan valid s scheme is)
        ∙ (ap₂ (λ (least greatest : ℕ). record scheme { min = least; max = greatest; measures = start.measures; accel = start.accel }) counts.least counts.greatest
        ∙ ap₂ (λ (list : List Measure) (accel : Accel). record scheme { measures = list; accel = accel }) measures (accel_back scheme.accel (each_at _ plan.schemes valid.schemes.accelerations s scheme is)))

  pub schemes_back : schemes_of config ≡ plan.schemes
  schemes_back =
      let made : ℕ × Scheme → SchemeTable = λ entry. scheme_table plan entry.0 entry.1 in
      let each : ℕ × SchemeTable → Scheme = λ numbered. scheme_of config (exchanges_before config numbered.0) numbered.1 in
      ap (map each) (enumerated_map made 0 plan.schemes)
      ∙ (map_twice each (λ (entry : ℕ × Scheme). (entry.0, made entry)) (enumerate_from 0 plan.schemes)
      ∙ (map_same (λ (entry : ℕ × Scheme). each (entry.0, made entry)) (λ (entry : ℕ × Scheme). entry.1) (enumerate_from 0 plan.schemes)
      (λ entry inside.
      let of = enumerated_in plan.schemes entry inside in
      let scheme_is : slice_get plan.schemes entry.0 ≡ Some entry.1 = of.1 ∙ ap (λ (e : ℕ × Scheme). Some e.1) (sym of.2) in
      scheme_back entry.0 entry.1 scheme_is)
      ∙ enumerated_items 0 plan.schemes))
