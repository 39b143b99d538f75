-- The exchanges of a valid plan: what they name is there, and they stand by scheme.
use Rattle.std.proofs.Common.{◌≡◌, ℕ, ◌<◌, Bool, true, false, nat_eq, List, length, map, Option, Some, None, Contains, refl, ap, sym, subst, ◌∙◌}
use Rattle.std.specs.Prelude.{flat_map, slice_get, option_map}
use Rattle.std.specs.List.{enumerate_from, range_with_len}
use Rattle.std.specs.Option.{option_map_or}
use Rattle.std.specs.Str.{bytes_eq}
use Rattle.std.proofs.lemmas.Bool.{and_parts, not-true, false≢true, eqb-true}
use Rattle.std.proofs.lemmas.List.Folds.{flat_map-map}
use Rattle.std.proofs.lemmas.Option.{slice_get_within, slice_get-map}
use Rattle.cpl_plan.specs.declared.parts.PlanParts.{PlanParts}
use Rattle.cpl_plan.specs.declared.parts.Exchange.{Exchange}
use Rattle.cpl_plan.specs.declared.parts.Scheme.{Scheme}
use Rattle.cpl_plan.specs.declared.parts.Kind.{Kind}
use Rattle.cpl_plan.specs.declared.parts.Kind.TheVariants.{Lag, Fresh, FreshIter, Iterated}
use Rattle.cpl_plan.specs.declared.parts.SchemeKind.{SchemeKind}
use Rattle.cpl_plan.specs.declared.parts.SchemeKind.TheVariants.{SerialExplicit, ParallelExplicit, SerialImplicit, ParallelImplicit, Multi}
use Rattle.cpl_plan.specs.ExchangeKinds.{exchange_kind}
use Rattle.cpl_plan.specs.Needs.{is_second}
use Rattle.cpl_plan.specs.PlanWords.{is_among}
use Rattle.cpl_plan.specs.PlanTests.{same_kind}
use Rattle.cpl_plan.specs.ValidPlan.{IsValidPlan}
use Rattle.cpl_plan.proofs.Readings.{each_at, passes_at, among_in, filter_in}
use Rattle.cpl_config.specs.declared.config.SchemeTable.{SchemeTable}
use Rattle.cpl_config.specs.SoundConfig.{all_exchanges}
use Rattle.config_rules.specs.Members.{goes_to_second, scheme_kind}
use Rattle.plan_laws.specs.PlanNames.{part_name}
use Rattle.plan_laws.specs.PlanSchemes.{kind_word, one_of_two, exchange_entry, exchanges_of, scheme_table}
use Rattle.plan_laws.specs.ConfigOfPlan.{config_of_plan}
use Rattle.plan_laws.proofs.Lists.{at_in, in_at, one_item}
use Rattle.plan_laws.proofs.Distinct.{turned}
use Rattle.plan_laws.proofs.Grouped.{map_flat, by_number, rising}
use Rattle.plan_laws.proofs.Known.{parts_tell, IsCarried, carried_there}
use Rattle.plan_laws.proofs.Tables.{kind_back, member_in}

same_kind_is : (one other : Kind) → same_kind one other ≡ true → one ≡ other
same_kind_is Lag Lag is = refl
same_kind_is Fresh Fresh is = refl
same_kind_is FreshIter FreshIter is = refl
same_kind_is Iterated Iterated is = refl
same_kind_is Lag Fresh is = absurd (false≢true is)
same_kind_is Lag FreshIter is = absurd (false≢true is)
same_kind_is Lag Iterated is = absurd (false≢true is)
same_kind_is Fresh Lag is = absurd (false≢true is)
same_kind_is Fresh FreshIter is = absurd (false≢true is)
same_kind_is Fresh Iterated is = absurd (false≢true is)
same_kind_is FreshIter Lag is = absurd (false≢true is)
same_kind_is FreshIter Fresh is = absurd (false≢true is)
same_kind_is FreshIter Iterated is = absurd (false≢true is)
same_kind_is Iterated Lag is = absurd (false≢true is)
same_kind_is Iterated Fresh is = absurd (false≢true is)
same_kind_is Iterated FreshIter is = absurd (false≢true is)

-- the kind by whom the second is, of a scheme that has one
kind_by : (kind : SchemeKind) (to : List ℕ) (names : List (List ℕ)) (second : Bool) → option_map_or (bytes_eq to) (slice_get names 1) false ≡ second
    → exchange_kind kind (option_map_or (bytes_eq to) (one_of_two kind 1 names) false) ≡ exchange_kind kind second
kind_by SerialExplicit to names second is = ap (exchange_kind SerialExplicit) is
kind_by ParallelExplicit to names second is = refl
kind_by SerialImplicit to names second is = ap (exchange_kind SerialImplicit) is
kind_by ParallelImplicit to names second is = refl
kind_by Multi to names second is = refl

module _ (plan : PlanParts) (valid : IsValidPlan plan) where
  pub record IsKnown (e : Exchange) : Type 0 where
    pub scheme : Scheme
    pub scheme_at : slice_get plan.schemes e.scheme ≡ Some scheme
    pub from_member : is_among e.from scheme.members ≡ true
    pub to_member : is_among e.to scheme.members ≡ true
    pub from_in : e.from < length plan.parts
    pub to_in : e.to < length plan.parts
    pub apart : nat_eq e.from e.to ≡ false
    pub on : IsCarried plan valid e.mesh e.data_id

  pub known : (x : ℕ) (e : Exchange) → slice_get plan.exchanges x ≡ Some e → IsKnown e
  known x e is =
      let outer = and_parts _ _ (each_at _ plan.exchanges valid.exchanges.two_members x e is) in
      let inner = and_parts _ _ outer.0 in
      let from = passes_at plan.schemes e.scheme (λ (s : Scheme). is_among e.from s.members) inner.1 in
      let to = passes_at plan.schemes e.scheme (λ (s : Scheme). is_among e.to s.members) outer.1 in
      let same : to.0 ≡ from.0 = one_item plan.schemes e.scheme to.0 from.0 to.1 from.1 in
      let among : is_among e.to from.0.members ≡ true = subst (λ (s : Scheme). is_among e.to s.members ≡ true) same to.2 in
      record {
        scheme = from.0;
        scheme_at = from.1;
        from_member = from.2;
        to_member = among;
        from_in = member_in plan valid e.scheme from.0 from.1 e.from (among_in e.from from.0.members from.2);
        to_in = member_in plan valid e.scheme from.0 from.1 e.to (among_in e.to from.0.members among);
        apart = not-true (nat_eq e.from e.to) inner.0;
        on = carried_there plan valid e.mesh e.data_id (each_at _ plan.exchanges valid.exchanges.carried x e is);
      }

  pub known_in : (e : Exchange) → Contains plan.exchanges e → IsKnown e
  known_in e inside = let at = at_in plan.exchanges e inside in known at.0 e at.1

  -- an exchange of a scheme
  pub in_scheme : (s : ℕ) (e : Exchange) → Contains (exchanges_of plan s) e → Contains plan.exchanges e × (e.scheme ≡ s)
  in_scheme s e inside =
      let of = filter_in (λ (x : Exchange). nat_eq x.scheme s) plan.exchanges e inside in
      (of.0, eqb-true e.scheme s of.1)

  -- its kind is the one that its word tells

  second_is : (s : ℕ) (scheme : Scheme) → slice_get plan.schemes s ≡ Some scheme → (to : ℕ) → to < length plan.parts
      → option_map_or (bytes_eq (part_name plan to)) (slice_get (map (part_name plan) scheme.members) 1) false ≡ is_second scheme to
  second_is s scheme is to within =
      ap (λ (o : Option (List ℕ)). option_map_or (bytes_eq (part_name plan to)) o false) (slice_get-map (part_name plan) scheme.members 1)
      ∙ of_second (slice_get scheme.members 1) (λ q at. member_in plan valid s scheme is q (in_at scheme.members 1 q at))
    where
      of_second : (o : Option ℕ) → ((q : ℕ) → o ≡ Some q → q < length plan.parts)
          → option_map_or (bytes_eq (part_name plan to)) (option_map (part_name plan) o) false ≡ option_map_or (λ member. nat_eq member to) o false
      of_second None all = refl
      of_second (Some q) all = parts_tell plan valid to q within (all q refl) ∙ turned to q

  pub kind_told : (s : ℕ) (scheme : Scheme) → slice_get plan.schemes s ≡ Some scheme → (to : ℕ) → to < length plan.parts
      → exchange_kind (scheme_kind (kind_word scheme.kind)) (option_map_or (bytes_eq (part_name plan to)) (one_of_two scheme.kind 1 (map (part_name plan) scheme.members)) false)
      ≡ exchange_kind scheme.kind (is_second scheme to)
  kind_told s scheme is to within =
      ap (λ (k : SchemeKind). exchange_kind k (option_map_or (bytes_eq (part_name plan to)) (one_of_two scheme.kind 1 (map (part_name plan) scheme.members)) false)) (kind_back scheme.kind)
      ∙ kind_by scheme.kind (part_name plan to) (map (part_name plan) scheme.members) (is_second scheme to) (second_is s scheme is to within)

  kind_of : (x : ℕ) (e : Exchange) → slice_get plan.exchanges x ≡ Some e → (scheme : Scheme) → slice_get plan.schemes e.scheme ≡ Some scheme → e.kind ≡ exchange_kind scheme.kind (is_second scheme e.to)
  kind_of x e is scheme at =
      same_kind_is e.kind (exchange_kind scheme.kind (is_second scheme e.to))
      (sym (ap (λ (o : Option Scheme). option_map_or (same_kind e.kind) (option_map (λ (s : Scheme). exchange_kind s.kind (is_second s e.to)) o) false) at)
      ∙ each_at _ plan.exchanges valid.exchanges.kinds x e is)

  pub told_kind : (s : ℕ) (scheme : Scheme) → slice_get plan.schemes s ≡ Some scheme → (e : Exchange) → Contains (exchanges_of plan s) e
      → exchange_kind (scheme_kind (kind_word scheme.kind)) (goes_to_second (scheme_table plan s scheme) (exchange_entry plan e)) ≡ e.kind
  told_kind s scheme is e inside =
      let own = in_scheme s e inside in
      let at = at_in plan.exchanges e own.0 in
      let there : slice_get plan.schemes e.scheme ≡ Some scheme = ap (slice_get plan.schemes) own.1 ∙ is in
      kind_told s scheme is e.to (known at.0 e at.1).to_in ∙ sym (kind_of at.0 e at.1 scheme there)

  -- the exchanges of all schemes are those of the plan

  scheme_within : (e : Exchange) → Contains plan.exchanges e → e.scheme < length plan.schemes
  scheme_within e inside = let one = known_in e inside in slice_get_within plan.schemes e.scheme one.scheme one.scheme_at

  pub by_schemes : flat_map (λ s. exchanges_of plan s) (range_with_len 0 (length plan.schemes)) ≡ plan.exchanges
  by_schemes = rising (λ (e : Exchange). e.scheme) (length plan.schemes) plan.exchanges valid.exchanges.by_scheme scheme_within

  pub all_exchanges_are : all_exchanges (config_of_plan plan) ≡ map (exchange_entry plan) plan.exchanges
  all_exchanges_are =
      flat_map-map (λ (table : SchemeTable). table.exchange) (λ (entry : ℕ × Scheme). scheme_table plan entry.0 entry.1) (enumerate_from 0 plan.schemes)
      ∙ (by_number (λ s. map (exchange_entry plan) (exchanges_of plan s)) 0 plan.schemes
      ∙ (map_flat (exchange_entry plan) (exchanges_of plan) (range_with_len 0 (length plan.schemes))
      ∙ ap (map (exchange_entry plan)) by_schemes))
