-- The numbers, names and lists of the schemes of a valid plan are within the limits of a configuration.
use Rattle.std.proofs.Common.{◌≡◌, ℕ, ◌^◌, ◌≤◌, Bool, true, false, ◌&&◌, nat_eq, nat_le, cond, List, [], length, map, ℤ, pos, negsuc, Option, Some, None, IfSome, All, Contains, refl, ap, sym, subst, ◌∙◌, arith}
use Rattle.std.specs.Prelude.{slice_get, int_le}
use Rattle.std.specs.Option.{option_map_or}
use Rattle.std.specs.Str.{bytes_eq}
use Rattle.std.proofs.lemmas.Bool.{and_parts, leb-true, eqb-true, ltb-true, false≢true}
use Rattle.std.proofs.lemmas.List.{length-map}
use Rattle.cpl_plan.specs.declared.parts.PlanParts.{PlanParts}
use Rattle.cpl_plan.specs.declared.parts.Exchange.{Exchange}
use Rattle.cpl_plan.specs.declared.parts.Scheme.{Scheme}
use Rattle.cpl_plan.specs.declared.parts.SchemeKind.{SchemeKind}
use Rattle.cpl_plan.specs.declared.parts.SchemeKind.TheVariants.{SerialExplicit, ParallelExplicit, SerialImplicit, ParallelImplicit, Multi}
use Rattle.cpl_plan.specs.declared.parts.Measure.{Measure}
use Rattle.cpl_plan.specs.declared.parts.Accel.{Accel}
use Rattle.cpl_plan.specs.declared.parts.Accel.TheVariants as A
use Rattle.cpl_plan.specs.ExchangeKinds as kinds
use Rattle.cpl_plan.specs.PlanWords.{is_among, numbers}
use Rattle.cpl_plan.specs.PlanTests.{looks_at_the_first, is_acceleration, is_part_of_one, data_carried}
use Rattle.cpl_plan.specs.ValidPlan.{IsValidPlan}
use Rattle.cpl_plan.proofs.Readings.{each_at, filter_in}
use Rattle.cpl_tables.specs.declared.shapes.Range.TheVariants.{Between}
use Rattle.cpl_config.specs.declared.config.ExchangeEntry.{ExchangeEntry}
use Rattle.cpl_config.specs.SoundConfig.{IsName, IsIn, IsNameList, IsSoundExchange, IsSoundMeasure, IsSoundAcceleration, IsSoundScheme, all_exchanges}
use Rattle.plan_laws.specs.PlanNames.{part_name, data_name, carried_name}
use Rattle.plan_laws.specs.PlanSchemes.{one_of_two, all_of_many, first_of_many, exchange_entry, exchanges_of, measure_entry, accelerated_data, accel_entry, scheme_table}
use Rattle.plan_laws.specs.ConfigOfPlan.{config_of_plan}
use Rattle.plan_laws.proofs.Lists.{in_at, all_mapped, from_mapped, passes_each, numbers_below}
use Rattle.plan_laws.proofs.Distinct.{distinct_mapped, distinct_texts, distinct_range, distinct_kept}
use Rattle.plan_laws.proofs.Known.{parts_tell}
use Rattle.plan_laws.proofs.Tables.{member_in}
use Rattle.plan_laws.proofs.Exchanges.{known_in, in_scheme, all_exchanges_are}
use Rattle.plan_laws.proofs.ExchangesFit.{all_schemes}
use Rattle.plan_laws.proofs.MeasuresFit.{measured}
use Rattle.plan_laws.proofs.SoundParts.{between, part_is_named, mesh_is_named, data_is_named, data_listed}

-- a limit and a factor as numbers in a range
limit_in : (limit : ℤ) (most : ℕ) → (int_le (pos 0) limit && int_le limit (pos most)) ≡ true → IsIn (Between 0 most) limit
limit_in (pos n) most holds = between 0 most n (omega arith) (leb-true n most (and_parts _ _ holds).1)
limit_in (negsuc n) most holds = absurd (false≢true holds)

factor_in : (factor : ℤ) → is_part_of_one factor ≡ true → IsIn (Between 1 (10 ^ 6)) factor
factor_in (pos n) holds =
    let parts = and_parts _ _ holds in
    between 1 (10 ^ 6) n (ltb-true 0 n parts.0) (leb-true n (10 ^ 6) parts.1)
factor_in (negsuc n) holds = absurd (false≢true holds)

-- what holds of what is there
pub if_some : {X : Type 0} (P : X → Type 0) (o : Option X) → ((x : X) → o ≡ Some x → P x) → IfSome o P
if_some P None each = tt
if_some P (Some x) each = each x refl

-- what is told of members, by the kind of their scheme

place_told : (kind : SchemeKind) (place : ℕ) (names : List (List ℕ)) → IfSome (slice_get names place) IsName → IfSome (one_of_two kind place names) IsName
place_told SerialExplicit place names named = named
place_told ParallelExplicit place names named = named
place_told SerialImplicit place names named = named
place_told ParallelImplicit place names named = named
place_told Multi place names named = tt

control_told : (kind : SchemeKind) (names : List (List ℕ)) → IfSome (slice_get names 0) IsName → IfSome (first_of_many kind names) IsName
control_told SerialExplicit names named = tt
control_told ParallelExplicit names named = tt
control_told SerialImplicit names named = tt
control_told ParallelImplicit names named = tt
control_told Multi names named = named

list_told : (kind : SchemeKind) (names : List (List ℕ)) → IsNameList names → IfSome (all_of_many kind names) IsNameList
list_told SerialExplicit names listed = tt
list_told ParallelExplicit names listed = tt
list_told SerialImplicit names listed = tt
list_told ParallelImplicit names listed = tt
list_told Multi names listed = listed

record AreCounted (implicit : Bool) (min max : ℕ) : Type 0 where
  greatest : IfSome (cond implicit (Some (pos max)) None) (IsIn (Between 1 1000))
  least : IfSome (cond implicit (Some (pos min)) None) (IsIn (Between 1 1000))

counted : (implicit : Bool) (min max : ℕ) → cond implicit (nat_le 1 min && nat_le min max && nat_le max (10 ^ 3)) (nat_eq min 1 && nat_eq max 1) ≡ true → AreCounted implicit min max
counted true min max holds =
    let outer = and_parts _ _ holds in
    let inner = and_parts _ _ outer.0 in
    let some : 1 ≤ min = leb-true 1 min inner.0 in
    let order : min ≤ max = leb-true min max inner.1 in
    let few : max ≤ 1000 = leb-true max (10 ^ 3) outer.1 in
    record {
      greatest = between 1 1000 max (omega (arith, some, order)) few;
      least = between 1 1000 min some (omega (arith, order, few));
    }
counted false min max holds = record { greatest = tt; least = tt }

few_measured : (implicit : Bool) (n : ℕ) → cond implicit (nat_le 1 n && nat_le n 16) (nat_eq n 0) ≡ true → n ≤ 16
few_measured true n holds = leb-true n 16 (and_parts _ _ holds).1
few_measured false n holds = let none : n ≡ 0 = eqb-true n 0 holds in omega (arith, none)

module _ (plan : PlanParts) (valid : IsValidPlan plan) where
  parts_listed : (s : ℕ) (scheme : Scheme) → slice_get plan.schemes s ≡ Some scheme → IsNameList (map (part_name plan) scheme.members)
  parts_listed s scheme is = record {
    each = all_mapped IsName (part_name plan) scheme.members (λ p inside. part_is_named plan valid p (member_in plan valid s scheme is p inside));
    once = distinct_texts (map (part_name plan) scheme.members)
        ∙ distinct_mapped nat_eq bytes_eq (part_name plan) scheme.members (λ a b one other apart. parts_tell plan valid a b (member_in plan valid s scheme is a one) (member_in plan valid s scheme is b other) ∙ apart)
        (each_at _ plan.schemes valid.schemes.members_once s scheme is);
  }

  named_at : (s : ℕ) (scheme : Scheme) → slice_get plan.schemes s ≡ Some scheme → (place : ℕ) → IfSome (slice_get (map (part_name plan) scheme.members) place) IsName
  named_at s scheme is place = if_some IsName (slice_get (map (part_name plan) scheme.members) place) (λ name at.
      let from = from_mapped (part_name plan) scheme.members place name at in
      subst IsName from.2 (part_is_named plan valid from.0 (member_in plan valid s scheme is from.0 (in_at scheme.members place from.0 from.1))))

  sound_exchange : (s : ℕ) (e : Exchange) → Contains (exchanges_of plan s) e → IsSoundExchange (exchange_entry plan e)
  sound_exchange s e inside =
      let own = known_in plan valid e (in_scheme plan valid s e inside).0 in
      record {
        data_name = data_is_named plan valid e.data_id own.on.data_within;
        mesh = mesh_is_named plan valid e.mesh own.on.mesh_within;
        from = part_is_named plan valid e.from own.from_in;
        to = part_is_named plan valid e.to own.to_in;
      }

  sound_measure : (s : ℕ) (scheme : Scheme) → slice_get plan.schemes s ≡ Some scheme → (measure : Measure) → Contains scheme.measures measure → IsSoundMeasure (measure_entry plan measure)
  sound_measure s scheme is measure inside =
      let of = measured plan valid s measure (passes_each (looks_at_the_first plan s) scheme.measures (each_at _ plan.schemes valid.schemes.measured_first s scheme is) measure inside) in
      let name : carried_name plan measure.exchange ≡ data_name plan of.exchange.data_id = ap (λ (o : Option Exchange). option_map_or (λ (e : Exchange). data_name plan e.data_id) o []) of.at in
      record {
        data_name = subst IsName (sym name) (data_is_named plan valid of.exchange.data_id (known_in plan valid of.exchange (in_at plan.exchanges measure.exchange of.exchange of.at)).on.data_within);
        limit = limit_in measure.limit (10 ^ 13) (passes_each (λ (m : Measure). int_le (pos 0) m.limit && int_le m.limit (pos (10 ^ 13))) scheme.measures (each_at _ plan.schemes valid.schemes.limits s scheme is) measure inside);
      }

  data_accelerated : (over : List ℕ) → IsNameList (map (data_name plan) (accelerated_data plan over))
  data_accelerated over =
      let test : ℕ → Bool = λ d. is_among d (data_carried plan over) in
      data_listed plan valid (accelerated_data plan over) (distinct_kept nat_eq test (numbers plan.data_list) (distinct_range 0 (length plan.data_list)))
      (λ d inside. let below = numbers_below 0 (length plan.data_list) d (filter_in test (numbers plan.data_list) d inside).0 in omega (arith, below))

  sound_acceleration : (s : ℕ) (scheme : Scheme) (accel : Accel) → is_acceleration plan s scheme accel ≡ true → IfSome (accel_entry plan accel) IsSoundAcceleration
  sound_acceleration s scheme A.None holds = tt
  sound_acceleration s scheme (A.Constant factor over) holds =
      record { factor = factor_in factor (and_parts _ _ (and_parts _ _ holds).0).1; data_names = data_accelerated over }
  sound_acceleration s scheme (A.Aitken factor over) holds =
      record { factor = factor_in factor (and_parts _ _ (and_parts _ _ holds).0).1; data_names = data_accelerated over }

  sound_scheme : (s : ℕ) (scheme : Scheme) → slice_get plan.schemes s ≡ Some scheme → IsSoundScheme (scheme_table plan s scheme)
  sound_scheme s scheme is =
      let counts = counted (kinds.is_implicit scheme.kind) scheme.min scheme.max (each_at _ plan.schemes valid.schemes.iterations s scheme is) in
      let few : length scheme.measures ≤ 16 = few_measured (kinds.is_implicit scheme.kind) (length scheme.measures) (each_at _ plan.schemes valid.schemes.measures s scheme is) in
      record {
        first = place_told scheme.kind 0 (map (part_name plan) scheme.members) (named_at s scheme is 0);
        second = place_told scheme.kind 1 (map (part_name plan) scheme.members) (named_at s scheme is 1);
        control = control_told scheme.kind (map (part_name plan) scheme.members) (named_at s scheme is 0);
        members = list_told scheme.kind (map (part_name plan) scheme.members) (parts_listed s scheme is);
        exchanges = all_mapped IsSoundExchange (exchange_entry plan) (exchanges_of plan s) (sound_exchange s);
        greatest = counts.greatest;
        least = counts.least;
        measures = all_mapped IsSoundMeasure (measure_entry plan) scheme.measures (sound_measure s scheme is);
        few_measures = omega (arith, few, length-map scheme.measures (measure_entry plan));
        acceleration = sound_acceleration s scheme scheme.accel (each_at _ plan.schemes valid.schemes.accelerations s scheme is);
      }

  pub sound_schemes : All IsSoundScheme (config_of_plan plan).scheme
  sound_schemes = all_schemes plan valid IsSoundScheme sound_scheme

  pub few_exchanges : length (all_exchanges (config_of_plan plan)) ≤ 256
  few_exchanges =
      let few : length plan.exchanges ≤ 256 = valid.sizes.exchanges in
      let same : length (all_exchanges (config_of_plan plan)) ≡ length (map (exchange_entry plan) plan.exchanges) = ap (λ (entries : List ExchangeEntry). length entries) (all_exchanges_are plan valid) in
      omega (arith, few, same, length-map plan.exchanges (exchange_entry plan))
