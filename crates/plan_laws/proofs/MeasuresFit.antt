-- The measures and accelerations of a plan fit the configuration that it is written as.
use Rattle.std.proofs.Common.{◌≡◌, ℕ, ◌<◌, ◌≤◌, Bool, true, false, ◌&&◌, nat_eq, nat_le, cond, List, [], ◌∷◌, length, map, ℤ, pos, Option, Some, None, IfSome, All, Contains, inl, inr, refl, ap, ap₂, sym, subst, ◌∙◌, arith}
use Rattle.std.specs.Prelude.{filter, flat_map, slice_get, option_map, option_to_list, sum_by, unsigned_abs}
use Rattle.std.specs.List.{list_any}
use Rattle.std.specs.Option.{option_map_or, option_and_then}
use Rattle.std.specs.Cmp.Lexicographic.{pointwise}
use Rattle.std.specs.Str.{bytes_eq}
use Rattle.std.proofs.lemmas.Bool.{and_parts, and_from, eqb-true, leb-true}
use Rattle.std.proofs.lemmas.List.{length-map}
use Rattle.plan_order.proofs.Loops.{in_cons}
use Rattle.plan_order.proofs.Orders.{none_in_nil}
use Rattle.plan_order.proofs.Named.{in_map}
use Rattle.cpl_plan.specs.declared.parts.PlanParts.{PlanParts}
use Rattle.cpl_plan.specs.declared.parts.MeshPlan.{MeshPlan}
use Rattle.cpl_plan.specs.declared.parts.DataPlan.{DataPlan}
use Rattle.cpl_plan.specs.declared.parts.Exchange.{Exchange}
use Rattle.cpl_plan.specs.declared.parts.Kind.{Kind}
use Rattle.cpl_plan.specs.declared.parts.Scheme.{Scheme}
use Rattle.cpl_plan.specs.declared.parts.Measure.{Measure}
use Rattle.cpl_plan.specs.declared.parts.Accel.{Accel}
use Rattle.cpl_plan.specs.declared.parts.Accel.TheVariants as A
use Rattle.cpl_plan.specs.ExchangeKinds as kinds
use Rattle.cpl_plan.specs.PlanWords.{is_among, passes, numbers, components, components_on, components_of}
use Rattle.cpl_plan.specs.PlanTests.{carriers, looks_at_the_first, is_iterated, data_carried, are_accelerated, is_acceleration}
use Rattle.cpl_plan.specs.ValidPlan.{IsValidPlan}
use Rattle.cpl_plan.proofs.Readings.{each_at, passes_at, among_in, in_among, filter_in, in_filter, in_numbers, there, same_numbers}
use Rattle.cpl_config.specs.declared.kind_words.DataKind.TheVariants.{Scalar, Vector}
use Rattle.cpl_config.specs.declared.kind_words.AccelWord.{AccelWord}
use Rattle.cpl_config.specs.declared.kind_words.AccelWord.TheVariants.{Constant, Aitken}
use Rattle.cpl_config.specs.declared.config.Config.{Config}
use Rattle.cpl_config.specs.declared.config.DataTable.{DataTable}
use Rattle.cpl_config.specs.declared.config.MeshTable.{MeshTable}
use Rattle.cpl_config.specs.declared.config.SchemeTable.{SchemeTable}
use Rattle.cpl_config.specs.declared.config.ExchangeEntry.{ExchangeEntry}
use Rattle.cpl_config.specs.declared.config.AccelEntry.{AccelEntry}
use Rattle.mesh_rules.specs.Named.{is_data, dimensions_of}
use Rattle.config_rules.specs.Members as rules
use Rattle.config_rules.specs.SchemeRules.{relaxes, components_by, is_accelerated}
use Rattle.config_rules.specs.SchemeRules as widths
use Rattle.config_laws.specs.FitSchemes.{IsFitMeasure, IsFitAcceleration}
use Rattle.config_laws.specs.FitConfig.{FitMeasures, FitAccelerations}
use Rattle.config_laws.proofs.Members.{any_at}
use Rattle.config_laws.proofs.Truths.{first_found, text_same}
use Rattle.plan_laws.specs.PlanNames.{mesh_name, data_name, carried_name}
use Rattle.plan_laws.specs.PlanTables.{data_table}
use Rattle.plan_laws.specs.PlanSchemes.{exchange_entry, exchanges_of, measure_entry, accelerated_data, accel_entry, scheme_table}
use Rattle.plan_laws.specs.ConfigOfPlan.{config_of_plan}
use Rattle.plan_laws.proofs.Lists.{in_at, all_mapped, passes_each, one_item, filter_mapped, filter_filter, filter_same, sum_mapped, sum_same, sum_of_flat, by_numbers, numbers_below}
use Rattle.plan_laws.proofs.Grouped.{in_flat}
use Rattle.plan_laws.proofs.Known.{data_among, data_declared, data_called_is, mesh_called_is}
use Rattle.plan_laws.proofs.Tables.{implicit_is}
use Rattle.plan_laws.proofs.Exchanges.{known, known_in, in_scheme, told_kind}
use Rattle.plan_laws.proofs.ExchangesFit.{all_schemes}

iterated_is : (one : Kind) → rules.kind_is_iterated one ≡ is_iterated one
iterated_is one = refl

module _ (plan : PlanParts) (valid : IsValidPlan plan) where
  abbrev config : Config
  config = config_of_plan plan

  -- exchanges of a scheme that carry one of some data

  pub record IsCarrier (s : ℕ) (items : List ℕ) (x : ℕ) : Type 0 where
    pub exchange : Exchange
    pub at : slice_get plan.exchanges x ≡ Some exchange
    pub of_scheme : exchange.scheme ≡ s
    pub listed : Contains (exchanges_of plan s) exchange
    pub carried : is_among exchange.data_id items ≡ true

  pub carrier : (s : ℕ) (items : List ℕ) (x : ℕ) → Contains (carriers plan s items) x → IsCarrier s items x
  carrier s items x inside =
      let Test : Exchange → Bool = λ e. nat_eq e.scheme s && is_among e.data_id items in
      let at = passes_at plan.exchanges x Test (filter_in (λ n. passes plan.exchanges n Test) (numbers plan.exchanges) x inside).1 in
      let both = and_parts (nat_eq at.0.scheme s) (is_among at.0.data_id items) at.2 in
      record {
        exchange = at.0;
        at = at.1;
        of_scheme = eqb-true at.0.scheme s both.0;
        listed = in_filter (λ (e : Exchange). nat_eq e.scheme s) plan.exchanges at.0 (in_at plan.exchanges x at.0 at.1) both.0;
        carried = both.1;
      }

  -- measures

  pub measured : (s : ℕ) (measure : Measure) → looks_at_the_first plan s measure ≡ true → IsCarrier s ((λ (o : Option Exchange). option_map_or (λ (e : Exchange). e.data_id) o 0) (slice_get plan.exchanges measure.exchange) ∷ []) measure.exchange
  measured s measure holds =
      let at = passes_at plan.exchanges measure.exchange (λ (e : Exchange). passes (carriers plan s (e.data_id ∷ [])) 0 (nat_eq measure.exchange)) holds in
      let first = passes_at (carriers plan s (at.0.data_id ∷ [])) 0 (nat_eq measure.exchange) at.2 in
      let same : first.0 ≡ measure.exchange = sym (eqb-true measure.exchange first.0 first.2) in
      let inside : Contains (carriers plan s (at.0.data_id ∷ [])) measure.exchange = subst (λ (n : ℕ). Contains (carriers plan s (at.0.data_id ∷ [])) n) same (in_at (carriers plan s (at.0.data_id ∷ [])) 0 first.0 first.1) in
      let items : at.0.data_id ∷ [] ≡ (option_map_or (λ (e : Exchange). e.data_id) (slice_get plan.exchanges measure.exchange) 0) ∷ [] =
      sym (ap (λ (o : Option Exchange). option_map_or (λ (e : Exchange). e.data_id) o 0 ∷ []) at.1) in
      subst (λ (ds : List ℕ). IsCarrier s ds measure.exchange) items (carrier s (at.0.data_id ∷ []) measure.exchange inside)

  pub measure_fits : (s : ℕ) (scheme : Scheme) → slice_get plan.schemes s ≡ Some scheme → (measure : Measure) → looks_at_the_first plan s measure ≡ true → IsFitMeasure config (scheme_table plan s scheme) (measure_entry plan measure)
  measure_fits s scheme is measure holds =
      let of = measured s measure holds in
      let name : carried_name plan measure.exchange ≡ data_name plan of.exchange.data_id = ap (λ (o : Option Exchange). option_map_or (λ (e : Exchange). data_name plan e.data_id) o []) of.at in
      let test : ExchangeEntry → Bool = λ other. bytes_eq other.data_name (carried_name plan measure.exchange) in
      let any : list_any test (map (exchange_entry plan) (exchanges_of plan s)) ≡ true =
      any_at test (map (exchange_entry plan) (exchanges_of plan s)) (exchange_entry plan of.exchange) (in_map (exchange_entry plan) (exchanges_of plan s) of.exchange of.listed)
      (text_same (data_name plan of.exchange.data_id) (carried_name plan measure.exchange) (sym name)) in
      let found = first_found test (map (exchange_entry plan) (exchanges_of plan s)) any in
      let own = known plan valid measure.exchange of.exchange of.at in
      record {
        data_declared = ap (is_data config) name ∙ data_declared plan valid of.exchange.data_id own.on.data_within;
        exchange = found.0;
        first = found.1;
      }

  pub measures_fit : FitMeasures config
  measures_fit = all_schemes plan valid (λ (table : SchemeTable). All (IsFitMeasure config table) table.measure) (λ s scheme is.
      all_mapped (IsFitMeasure config (scheme_table plan s scheme)) (measure_entry plan) scheme.measures (λ measure inside.
      measure_fits s scheme is measure (passes_each (looks_at_the_first plan s) scheme.measures (each_at _ plan.schemes valid.schemes.measured_first s scheme is) measure inside)))

  -- accelerations

  components_same : (item : DataPlan) (mesh : MeshPlan) → components_by (data_table item).kind mesh.dimensions ≡ components item mesh
  components_same item mesh = by_kind item.vector
    where
      by_kind : (vector : Bool) → components_by (cond vector Vector Scalar) mesh.dimensions ≡ cond vector mesh.dimensions 1
      by_kind true = refl
      by_kind false = refl

  pub components_are : (e : Exchange) → Contains plan.exchanges e → widths.components_of config (exchange_entry plan e) ≡ components_of plan e
  components_are e inside =
      let own = known_in plan valid e inside in
      let item = there plan.data_list e.data_id own.on.data_within in
      let there_is : components_on plan e.data_id e.mesh ≡ Some (components item.0 own.on.mesh) =
      ap (λ (o : Option DataPlan). option_and_then (λ (d : DataPlan). option_map (λ (m : MeshPlan). components d m) (slice_get plan.meshes e.mesh)) o) item.1
      ∙ ap (λ (o : Option MeshPlan). option_map (λ (m : MeshPlan). components item.0 m) o) own.on.at in
      let dimensions : unsigned_abs (dimensions_of config (mesh_name plan e.mesh)) ≡ own.on.mesh.dimensions =
      ap (λ (o : Option MeshTable). unsigned_abs (option_map_or (λ (table : MeshTable). table.dimensions) o (pos 0))) (mesh_called_is plan valid e.mesh own.on.mesh own.on.at) in
      ap (λ (o : Option DataTable). option_map_or (λ (table : DataTable). components_by table.kind (unsigned_abs (dimensions_of config (mesh_name plan e.mesh)))) o 0) (data_called_is plan valid e.data_id item.0 item.1)
      ∙ (ap (components_by (data_table item.0).kind) dimensions
      ∙ (components_same item.0 own.on.mesh ∙ sym (ap (λ (o : Option ℕ). option_map_or (λ n. n) o 0) there_is)))

  module _ (s : ℕ) (scheme : Scheme) (is : slice_get plan.schemes s ≡ Some scheme) (over : List ℕ) (holds : are_accelerated plan s over ≡ true) where
    abbrev items : List ℕ
    items = data_carried plan over

    parts : ((nat_le 1 (length over) && pointwise nat_eq over (filter (λ x. passes plan.exchanges x (λ (e : Exchange). is_iterated e.kind)) (carriers plan s items))) ≡ true)
        × (nat_le (sum_by (λ x. sum_by (components_of plan) (option_to_list (slice_get plan.exchanges x))) over) 20 ≡ true)
    parts = and_parts _ _ holds

    pub over_is : over ≡ filter (λ x. passes plan.exchanges x (λ (e : Exchange). is_iterated e.kind)) (carriers plan s items)
    over_is = same_numbers over (filter (λ x. passes plan.exchanges x (λ (e : Exchange). is_iterated e.kind)) (carriers plan s items)) (and_parts _ _ parts.0).1

    -- each of them is an iterated exchange of the scheme
    record IsRelaxed (x : ℕ) : Type 0 where
      of : IsCarrier s items x
      iterated : is_iterated of.exchange.kind ≡ true

    relaxed : (x : ℕ) → Contains over x → IsRelaxed x
    relaxed x inside =
        let kept = filter_in (λ n. passes plan.exchanges n (λ (e : Exchange). is_iterated e.kind)) (carriers plan s items) x (subst (λ (ns : List ℕ). Contains ns x) over_is inside) in
        let of = carrier s items x kept.0 in
        let at = passes_at plan.exchanges x (λ (e : Exchange). is_iterated e.kind) kept.1 in
        record { of = of; iterated = subst (λ (e : Exchange). is_iterated e.kind ≡ true) (one_item plan.exchanges x at.0 of.exchange at.1 of.at) at.2 }

    -- data that they carry
    carried_by : (d : ℕ) → Contains items d → (x : ℕ) × Contains over x × (e : Exchange) × (slice_get plan.exchanges x ≡ Some e) × (e.data_id ≡ d)
    carried_by d inside =
        let from = in_flat (λ x. option_to_list (option_map (λ (e : Exchange). e.data_id) (slice_get plan.exchanges x))) over d inside in
        let found = of_option (slice_get plan.exchanges from.0) from.2 in
        (from.0, from.1, found.0, found.1, found.2)
      where
        of_option : {d : ℕ} (o : Option Exchange) → Contains (option_to_list (option_map (λ (e : Exchange). e.data_id) o)) d → (e : Exchange) × (o ≡ Some e) × (e.data_id ≡ d)
        of_option {d} None inside = absurd (none_in_nil d inside)
        of_option {d} (Some e) inside = elim (in_cons e.data_id [] d inside) [
          | inl same ↦ (e, refl, same)
          | inr none ↦ absurd (none_in_nil d none)
        ]

    accelerated_in : (d : ℕ) → Contains (accelerated_data plan over) d → (d < length plan.data_list) × Contains items d
    accelerated_in d inside =
        let kept = filter_in (λ k. is_among k items) (numbers plan.data_list) d inside in
        (let below = numbers_below 0 (length plan.data_list) d kept.0 in omega (arith, below), among_in d items kept.1)

    in_accelerated : (d : ℕ) → d < length plan.data_list → Contains items d → Contains (accelerated_data plan over) d
    in_accelerated d within inside = in_filter (λ k. is_among k items) (numbers plan.data_list) d (in_numbers plan.data_list d within) (in_among d items inside)

    some : 1 ≤ length (accelerated_data plan over)
    some =
        let one : 1 ≤ length over = leb-true 1 (length over) (and_parts _ _ parts.0).0 in
        let x = there over 0 (omega (arith, one)) in
        let inside : Contains over x.0 = in_at over 0 x.0 x.1 in
        let of = (relaxed x.0 inside).of in
        let own = known plan valid x.0 of.exchange of.at in
        let found = in_accelerated of.exchange.data_id own.on.data_within (among_in of.exchange.data_id items of.carried) in
        omega (arith, found.1)

    table_iterates : (e : Exchange) → Contains (exchanges_of plan s) e → rules.is_iterated (scheme_table plan s scheme) (exchange_entry plan e) ≡ is_iterated e.kind
    table_iterates e inside = ap rules.kind_is_iterated (told_kind plan valid s scheme is e inside) ∙ iterated_is e.kind

    relaxes_it : (d : ℕ) → Contains (accelerated_data plan over) d → relaxes (scheme_table plan s scheme) (data_name plan d) ≡ true
    relaxes_it d inside =
        let own = accelerated_in d inside in
        let by = carried_by d own.1 in
        let x = relaxed by.0 by.1 in
        let same : x.of.exchange ≡ by.2 = one_item plan.exchanges by.0 x.of.exchange by.2 x.of.at by.3 in
        let data_is : x.of.exchange.data_id ≡ d = ap (λ (e : Exchange). e.data_id) same ∙ by.4 in
        any_at (λ (entry : ExchangeEntry). bytes_eq entry.data_name (data_name plan d) && rules.is_iterated (scheme_table plan s scheme) entry) (map (exchange_entry plan) (exchanges_of plan s)) (exchange_entry plan x.of.exchange)
        (in_map (exchange_entry plan) (exchanges_of plan s) x.of.exchange x.of.listed)
        (and_from _ _ (text_same (data_name plan x.of.exchange.data_id) (data_name plan d) (ap (data_name plan) data_is)) (table_iterates x.of.exchange x.of.listed ∙ x.iterated))

    -- data are among the accelerated where they are carried
    among_is : (d : ℕ) → d < length plan.data_list → is_among d (accelerated_data plan over) ≡ is_among d items
    among_is d within = same_tests (is_among d (accelerated_data plan over)) (is_among d items)
        (λ is_one. in_among d items (accelerated_in d (among_in d (accelerated_data plan over) is_one)).1)
        (λ is_one. in_among d (accelerated_data plan over) (in_accelerated d within (among_in d items is_one)))
      where
        same_tests : (a b : Bool) → (a ≡ true → b ≡ true) → (b ≡ true → a ≡ true) → a ≡ b
        same_tests true b one other = sym (one refl)
        same_tests false true one other = other refl
        same_tests false false one other = refl

    module _ (kind : AccelWord) (factor : ℤ) where
      abbrev entry : AccelEntry
      entry = record { kind = kind; factor = factor; data_list = map (data_name plan) (accelerated_data plan over) }

      pub accelerated_is : (e : Exchange) → Contains (exchanges_of plan s) e → is_accelerated (scheme_table plan s scheme) entry (exchange_entry plan e) ≡ (is_among e.data_id items && is_iterated e.kind)
      accelerated_is e inside =
          let own = known_in plan valid e (in_scheme plan valid s e inside).0 in
          ap₂ (λ a b. a && b) (data_among plan valid e.data_id (accelerated_data plan over) own.on.data_within (λ k there_in. (accelerated_in k there_in).0) ∙ among_is e.data_id own.on.data_within) (table_iterates e inside)

      -- the exchanges that are accelerated there are those over which the plan accelerates
      widths_same : sum_by (widths.components_of config) (filter (is_accelerated (scheme_table plan s scheme) entry) (map (exchange_entry plan) (exchanges_of plan s)))
          ≡ sum_by (components_of plan) (filter (λ e. (nat_eq e.scheme s && is_among e.data_id items) && is_iterated e.kind) plan.exchanges)
      widths_same =
          let Kept : Exchange → Bool = λ e. is_among e.data_id items && is_iterated e.kind in
          let tests : (e : Exchange) → (nat_eq e.scheme s && (is_among e.data_id items && is_iterated e.kind)) ≡ ((nat_eq e.scheme s && is_among e.data_id items) && is_iterated e.kind) =
          λ e. associates (nat_eq e.scheme s) (is_among e.data_id items) (is_iterated e.kind) in
          ap (sum_by (widths.components_of config)) (filter_mapped (is_accelerated (scheme_table plan s scheme) entry) (exchange_entry plan) (exchanges_of plan s))
          ∙ (sum_mapped (widths.components_of config) (exchange_entry plan) (filter (λ e. is_accelerated (scheme_table plan s scheme) entry (exchange_entry plan e)) (exchanges_of plan s))
          ∙ (ap (sum_by (λ (e : Exchange). widths.components_of config (exchange_entry plan e))) (filter_same (λ e. is_accelerated (scheme_table plan s scheme) entry (exchange_entry plan e)) Kept (exchanges_of plan s) accelerated_is
          ∙ (filter_filter (λ (e : Exchange). nat_eq e.scheme s) Kept plan.exchanges
          ∙ filter_same (λ (e : Exchange). nat_eq e.scheme s && Kept e) (λ (e : Exchange). (nat_eq e.scheme s && is_among e.data_id items) && is_iterated e.kind) plan.exchanges (λ e inside. tests e)))
          ∙ sum_same (λ (e : Exchange). widths.components_of config (exchange_entry plan e)) (components_of plan) (filter (λ e. (nat_eq e.scheme s && is_among e.data_id items) && is_iterated e.kind) plan.exchanges)
          (λ e inside. components_are e (filter_in (λ (x : Exchange). (nat_eq x.scheme s && is_among x.data_id items) && is_iterated x.kind) plan.exchanges e inside).0)))
        where
          associates : (a b c : Bool) → (a && (b && c)) ≡ ((a && b) && c)
          associates true b c = refl
          associates false b c = refl

      over_width : sum_by (λ x. sum_by (components_of plan) (option_to_list (slice_get plan.exchanges x))) over
          ≡ sum_by (components_of plan) (filter (λ e. (nat_eq e.scheme s && is_among e.data_id items) && is_iterated e.kind) plan.exchanges)
      over_width =
          let Both : Exchange → Bool = λ e. (nat_eq e.scheme s && is_among e.data_id items) && is_iterated e.kind in
          let numbers_are : over ≡ filter (λ x. passes plan.exchanges x Both) (numbers plan.exchanges) =
          over_is ∙ (filter_filter (λ x. passes plan.exchanges x (λ (e : Exchange). nat_eq e.scheme s && is_among e.data_id items)) (λ x. passes plan.exchanges x (λ (e : Exchange). is_iterated e.kind)) (numbers plan.exchanges)
          ∙ filter_same (λ x. passes plan.exchanges x (λ (e : Exchange). nat_eq e.scheme s && is_among e.data_id items) && passes plan.exchanges x (λ (e : Exchange). is_iterated e.kind)) (λ x. passes plan.exchanges x Both) (numbers plan.exchanges)
          (λ x inside. both_pass (slice_get plan.exchanges x))) in
          sym (sum_of_flat (components_of plan) (λ x. option_to_list (slice_get plan.exchanges x)) over)
          ∙ (ap (λ (ns : List ℕ). sum_by (components_of plan) (flat_map (λ x. option_to_list (slice_get plan.exchanges x)) ns)) numbers_are
          ∙ ap (sum_by (components_of plan)) (by_numbers Both plan.exchanges))
        where
          both_pass : (o : Option Exchange) → (option_map_or (λ (e : Exchange). nat_eq e.scheme s && is_among e.data_id items) o false && option_map_or (λ (e : Exchange). is_iterated e.kind) o false)
              ≡ option_map_or (λ (e : Exchange). (nat_eq e.scheme s && is_among e.data_id items) && is_iterated e.kind) o false
          both_pass None = refl
          both_pass (Some e) = refl

      pub acceleration_fits : kinds.is_implicit scheme.kind ≡ true → IsFitAcceleration config (scheme_table plan s scheme) entry
      acceleration_fits implicit =
          let narrow : sum_by (λ x. sum_by (components_of plan) (option_to_list (slice_get plan.exchanges x))) over ≤ 20 = leb-true _ 20 parts.1 in
          let own : 1 ≤ length (accelerated_data plan over) = some in
          record {
            implicit = implicit_is plan valid s scheme ∙ implicit;
            declared = all_mapped (λ (name : List ℕ). is_data config name ≡ true) (data_name plan) (accelerated_data plan over) (λ d inside. data_declared plan valid d (accelerated_in d inside).0);
            some = omega (arith, own, length-map (accelerated_data plan over) (data_name plan));
            relaxed = all_mapped (λ (name : List ℕ). relaxes (scheme_table plan s scheme) name ≡ true) (data_name plan) (accelerated_data plan over) relaxes_it;
            narrow = omega (arith, narrow, widths_same, over_width);
          }

  accel_fits : (s : ℕ) (scheme : Scheme) → slice_get plan.schemes s ≡ Some scheme → (accel : Accel) → is_acceleration plan s scheme accel ≡ true → IfSome (accel_entry plan accel) (IsFitAcceleration config (scheme_table plan s scheme))
  accel_fits s scheme is A.None holds = tt
  accel_fits s scheme is (A.Constant factor over) holds =
      let outer = and_parts _ _ holds in
      acceleration_fits s scheme is over outer.1 Constant factor (and_parts _ _ outer.0).0
  accel_fits s scheme is (A.Aitken factor over) holds =
      let outer = and_parts _ _ holds in
      acceleration_fits s scheme is over outer.1 Aitken factor (and_parts _ _ outer.0).0

  pub accelerations_fit : FitAccelerations config
  accelerations_fit = all_schemes plan valid (λ (table : SchemeTable). IfSome table.acceleration (IsFitAcceleration config table)) (λ s scheme is.
      accel_fits s scheme is scheme.accel (each_at _ plan.schemes valid.schemes.accelerations s scheme is))
