-- The schemes of a plan fit the configuration that it is written as.
use Rattle.std.proofs.Common.{◌≡◌, ◌≢◌, ℕ, ◌<◌, ◌≤◌, Bool, true, false, ◌&&◌, nat_eq, nat_le, cond, List, [], ◌∷◌, ◌++◌, length, map, ℤ, pos, Option, Some, None, All, Contains, refl, ap, sym, subst, ◌∙◌, append_assoc, arith}
use Rattle.std.specs.Prelude.{slice_get, count_by, unwrap_or, unsigned_abs, get_or}
use Rattle.std.proofs.lemmas.Bool.{and_parts, leb-true, eqb-true, false≢true, false_from_ne_true}
use Rattle.std.proofs.lemmas.List.{length-map, nil_from_length}
use Rattle.std.proofs.lemmas.List.Concat.{flat_map-append}
use Rattle.std.proofs.lemmas.List.Elements.{Contains-append_left}
use Rattle.std.proofs.lemmas.Option.{slice_get-get_or}
use Rattle.plan_order.proofs.Loops.{head_in}
use Rattle.cpl_plan.specs.declared.parts.PlanParts.{PlanParts}
use Rattle.cpl_plan.specs.declared.parts.Scheme.{Scheme}
use Rattle.cpl_plan.specs.declared.parts.SchemeKind.{SchemeKind}
use Rattle.cpl_plan.specs.declared.parts.SchemeKind.TheVariants.{SerialExplicit, ParallelExplicit, SerialImplicit, ParallelImplicit, Multi}
use Rattle.cpl_plan.specs.declared.parts.Accel.{Accel}
use Rattle.cpl_plan.specs.declared.parts.Accel.TheVariants as A
use Rattle.cpl_plan.specs.ExchangeKinds as kinds
use Rattle.cpl_plan.specs.PlanWords.{is_among}
use Rattle.cpl_plan.specs.PlanTests.{has_members, is_acceleration}
use Rattle.cpl_plan.specs.ValidPlan.{IsValidPlan}
use Rattle.cpl_plan.proofs.Readings.{each_at, in_among}
use Rattle.cpl_config.specs.declared.config.Config.{Config}
use Rattle.cpl_config.specs.declared.config.SchemeTable.{SchemeTable}
use Rattle.mesh_rules.specs.Named.{is_participant}
use Rattle.config_rules.specs.Members.{is_implicit, is_multi, kind_is_multi, members, is_member}
use Rattle.config_rules.specs.Circles.{step_of, steps_of}
use Rattle.config_rules.specs.declared.circles.Step.{Step}
use Rattle.config_laws.specs.Circling.{GoesRound}
use Rattle.config_laws.specs.FitSchemes.{HasTwo, HasMany, HasIterations, RepeatsWindows, RunsOnce, ShareNone, IsFitScheme}
use Rattle.config_laws.specs.FitConfig.{FitSchemes}
use Rattle.config_laws.proofs.KnownSchemes.{Declared, KnownSchemes}
use Rattle.config_laws.proofs.RoundsUp.{cycle_of_round}
use Rattle.config_laws.proofs.WalksRound.{loose_round}
use Rattle.plan_laws.specs.PlanNames.{part_name}
use Rattle.plan_laws.specs.PlanSchemes.{kind_word, one_of_two, all_of_many, first_of_many, iterations, measure_entry, accel_entry, scheme_table}
use Rattle.plan_laws.specs.ConfigOfPlan.{config_of_plan}
use Rattle.plan_laws.proofs.Lists.{in_at, all_in, all_mapped, from_mapped, at_split, before_split, two_items, sum_mapped, sum_same}
use Rattle.plan_laws.proofs.Distinct.{apart_at}
use Rattle.plan_laws.proofs.Known.{part_declared, same_part}
use Rattle.plan_laws.proofs.MeshesFit.{not_among}
use Rattle.plan_laws.proofs.Tables.{scheme_from, member_in, names_counted, members_are, member_is, implicit_is}
use Rattle.plan_laws.proofs.Meetings.{one_counts, meet_once, one_group}
use Rattle.plan_laws.proofs.Cycles.{no_cycle_there}
use Rattle.plan_laws.proofs.ExchangesFit.{all_schemes}

-- members as they are told

of_two : (names : List (List ℕ)) (table : SchemeTable) → table.first ≡ slice_get names 0 → table.second ≡ slice_get names 1 → table.control ≡ None → table.members ≡ None → length names ≡ 2
    → ((a b : List ℕ) → names ≡ a ∷ b ∷ [] → a ≢ b) → HasTwo table
of_two names table first second control members two apart =
    let items = two_items names two in
    record {
      first = items.0;
      second = items.1;
      first_told = first ∙ ap (λ (ns : List (List ℕ)). slice_get ns 0) items.2;
      second_told = second ∙ ap (λ (ns : List (List ℕ)). slice_get ns 1) items.2;
      apart = apart items.0 items.1 items.2;
      no_control = control;
      no_list = members;
    }

two_told : (kind : SchemeKind) (names : List (List ℕ)) (table : SchemeTable) → table.first ≡ one_of_two kind 0 names → table.second ≡ one_of_two kind 1 names → table.control ≡ first_of_many kind names
    → table.members ≡ all_of_many kind names → has_members kind (length names) ≡ true → ((a b : List ℕ) → names ≡ a ∷ b ∷ [] → a ≢ b) → kind_is_multi (kind_word kind) ≡ false → HasTwo table
two_told Multi names table first second control members counted apart multi = absurd (false≢true (sym multi))
two_told SerialExplicit names table first second control members counted apart multi = of_two names table first second control members (eqb-true (length names) 2 counted) apart
two_told ParallelExplicit names table first second control members counted apart multi = of_two names table first second control members (eqb-true (length names) 2 counted) apart
two_told SerialImplicit names table first second control members counted apart multi = of_two names table first second control members (eqb-true (length names) 2 counted) apart
two_told ParallelImplicit names table first second control members counted apart multi = of_two names table first second control members (eqb-true (length names) 2 counted) apart

many_told : (kind : SchemeKind) (names : List (List ℕ)) (table : SchemeTable) → table.first ≡ one_of_two kind 0 names → table.second ≡ one_of_two kind 1 names → table.control ≡ first_of_many kind names
    → table.members ≡ all_of_many kind names → has_members kind (length names) ≡ true → kind_is_multi (kind_word kind) ≡ true → HasMany table
many_told SerialExplicit names table first second control members counted multi = absurd (false≢true multi)
many_told ParallelExplicit names table first second control members counted multi = absurd (false≢true multi)
many_told SerialImplicit names table first second control members counted multi = absurd (false≢true multi)
many_told ParallelImplicit names table first second control members counted multi = absurd (false≢true multi)
many_told Multi [] table first second control members counted multi = absurd (false≢true counted)
many_told Multi (name ∷ names) table first second control members counted multi = record {
  names = name ∷ names;
  control = name;
  names_told = members;
  control_told = control;
  two_or_more = leb-true 2 (length (name ∷ names)) counted;
  control_listed = head_in name names;
  no_first = first;
  no_second = second;
}

-- how often windows are repeated

repeats : (kind : SchemeKind) (min max : ℕ) (table : SchemeTable) → table.max_iterations ≡ iterations kind max → table.min_iterations ≡ iterations kind min → min ≤ max → kinds.is_implicit kind ≡ true → HasIterations table
repeats kind min max table greatest least in_order implicit =
    let is_least : table.min_iterations ≡ Some (pos min) = least ∙ ap (λ b. cond b (Some (pos min)) None) implicit in
    let same : unsigned_abs (unwrap_or table.min_iterations (pos 1)) ≡ min = ap (λ (o : Option ℤ). unsigned_abs (unwrap_or o (pos 1))) is_least in
    record {
      greatest = pos max;
      told = greatest ∙ ap (λ b. cond b (Some (pos max)) None) implicit;
      in_order = subst (λ (n : ℕ). n ≤ max) (sym same) in_order;
    }

none_told : (kind : SchemeKind) (n : ℕ) → kinds.is_implicit kind ≡ false → iterations kind n ≡ None
none_told kind n explicit = ap (λ b. cond b (Some (pos n)) None) explicit

-- the steps of the first tables are among those of all
steps_before : (config : Config) (before : List SchemeTable) (table : SchemeTable) (after : List SchemeTable) → config.scheme ≡ before ++ table ∷ after
    → (step : Step) → Contains (steps_of config (before ++ table ∷ [])) step → Contains (steps_of config config.scheme) step
steps_before config before table after is step inside =
    let front : List SchemeTable = before ++ table ∷ [] in
    let split : config.scheme ≡ front ++ after = is ∙ sym (append_assoc before (table ∷ []) after) in
    let steps : steps_of config config.scheme ≡ steps_of config front ++ steps_of config after =
    ap (steps_of config) split ∙ flat_map-append (λ (t : SchemeTable). step_of config t.kind t.first t.second) front after in
    subst (λ (xs : List Step). Contains xs step) (sym steps) (Contains-append_left (steps_of config front) (steps_of config after) step inside)

module _ (plan : PlanParts) (valid : IsValidPlan plan) where
  abbrev config : Config
  config = config_of_plan plan

  names_apart : (s : ℕ) (scheme : Scheme) → slice_get plan.schemes s ≡ Some scheme → (a b : List ℕ) → map (part_name plan) scheme.members ≡ a ∷ b ∷ [] → a ≢ b
  names_apart s scheme is a b names same =
      let first = from_mapped (part_name plan) scheme.members 0 a (ap (λ (ns : List (List ℕ)). slice_get ns 0) names) in
      let second = from_mapped (part_name plan) scheme.members 1 b (ap (λ (ns : List (List ℕ)). slice_get ns 1) names) in
      let differ : nat_eq first.0 second.0 ≡ false =
      apart_at nat_eq scheme.members (each_at _ plan.schemes valid.schemes.members_once s scheme is) 0 1 first.0 second.0 (omega arith) first.1 second.1 in
      not_among first.0 second.0 differ
      (same_part plan valid first.0 second.0 (member_in plan valid s scheme is first.0 (in_at scheme.members 0 first.0 first.1)) (member_in plan valid s scheme is second.0 (in_at scheme.members 1 second.0 second.1)) (first.2 ∙ (same ∙ sym second.2)))

  declared : (s : ℕ) (scheme : Scheme) → slice_get plan.schemes s ≡ Some scheme → Declared config (scheme_table plan s scheme)
  declared s scheme is =
      subst (λ (names : List (List ℕ)). All (λ name. is_participant config name ≡ true) names) (sym (members_are plan valid s scheme is))
      (all_mapped (λ (name : List ℕ). is_participant config name ≡ true) (part_name plan) scheme.members (λ p inside. part_declared plan valid p (member_in plan valid s scheme is p inside)))

  two : (s : ℕ) (scheme : Scheme) → slice_get plan.schemes s ≡ Some scheme → is_multi (scheme_table plan s scheme) ≡ false → HasTwo (scheme_table plan s scheme)
  two s scheme is multi = two_told scheme.kind (map (part_name plan) scheme.members) (scheme_table plan s scheme) refl refl refl refl (names_counted plan valid s scheme is) (names_apart s scheme is) multi

  many : (s : ℕ) (scheme : Scheme) → slice_get plan.schemes s ≡ Some scheme → is_multi (scheme_table plan s scheme) ≡ true → HasMany (scheme_table plan s scheme)
  many s scheme is multi = many_told scheme.kind (map (part_name plan) scheme.members) (scheme_table plan s scheme) refl refl refl refl (names_counted plan valid s scheme is) multi

  -- what two schemes share

  members_shared : (s t : ℕ) (one other : Scheme) → slice_get plan.schemes s ≡ Some one → slice_get plan.schemes t ≡ Some other
      → count_by (λ name. is_member name (scheme_table plan t other)) (members (scheme_table plan s one)) ≡ count_by (λ p. is_among p other.members) one.members
  members_shared s t one other one_at other_at =
      ap (count_by (λ (name : List ℕ). is_member name (scheme_table plan t other))) (members_are plan valid s one one_at)
      ∙ (sum_mapped (λ (name : List ℕ). cond {A = ℕ} (is_member name (scheme_table plan t other)) 1 0) (part_name plan) one.members
      ∙ sum_same (λ (p : ℕ). cond {A = ℕ} (is_member (part_name plan p) (scheme_table plan t other)) 1 0) (λ (p : ℕ). cond {A = ℕ} (is_among p other.members) 1 0) one.members
      (λ p inside. ap (λ b. cond {A = ℕ} b 1 0) (member_is plan valid t other other_at p (member_in plan valid s one one_at p inside))))

  meets_once : (s t : ℕ) (one other : Scheme) → slice_get plan.schemes s ≡ Some one → slice_get plan.schemes t ≡ Some other → s ≢ t
      → count_by (λ name. is_member name (scheme_table plan t other)) (members (scheme_table plan s one)) ≤ 1
  meets_once s t one other one_at other_at apart =
      let few : count_by (λ p. is_among p other.members) one.members ≤ 1 =
      one_counts (λ p. is_among p other.members) one.members (each_at _ plan.schemes valid.schemes.members_once s one one_at)
      (λ p q p_in q_in p_other q_other. meet_once plan valid s t one other one_at other_at apart p q (member_in plan valid s one one_at p p_in) (member_in plan valid s one one_at q q_in) (in_among p one.members p_in) (in_among q one.members q_in) p_other q_other) in
      subst (λ (n : ℕ). n ≤ 1) (sym (members_shared s t one other one_at other_at)) few

  share_none : (s t : ℕ) (one other : Scheme) → slice_get plan.schemes s ≡ Some one → slice_get plan.schemes t ≡ Some other → s ≢ t
      → is_implicit (scheme_table plan s one) ≡ true → is_implicit (scheme_table plan t other) ≡ true → ShareNone (scheme_table plan s one) (scheme_table plan t other)
  share_none s t one other one_at other_at apart one_is other_is =
      subst (λ (names : List (List ℕ)). All (λ name. is_member name (scheme_table plan t other) ≡ false) names) (sym (members_are plan valid s one one_at))
      (all_mapped (λ (name : List ℕ). is_member name (scheme_table plan t other) ≡ false) (part_name plan) one.members (λ p inside.
      let within : p < length plan.parts = member_in plan valid s one one_at p inside in
      false_from_ne_true (is_member (part_name plan p) (scheme_table plan t other)) (λ is_one.
      one_group plan valid s t one other one_at other_at apart (sym (implicit_is plan valid s one) ∙ one_is) (sym (implicit_is plan valid t other) ∙ other_is) p within (in_among p one.members inside)
      (sym (member_is plan valid t other other_at p within) ∙ is_one))))

  -- how often windows are repeated

  iterated : (s : ℕ) (scheme : Scheme) → slice_get plan.schemes s ≡ Some scheme → is_implicit (scheme_table plan s scheme) ≡ true → RepeatsWindows (scheme_table plan s scheme)
  iterated s scheme is implicit =
      let own : kinds.is_implicit scheme.kind ≡ true = sym (implicit_is plan valid s scheme) ∙ implicit in
      let counts = and_parts (nat_le 1 scheme.min && nat_le scheme.min scheme.max) (nat_le scheme.max 1000) (choose (nat_le 1 scheme.min && nat_le scheme.min scheme.max && nat_le scheme.max 1000) (nat_eq scheme.min 1 && nat_eq scheme.max 1) own (each_at _ plan.schemes valid.schemes.iterations s scheme is)) in
      let order : scheme.min ≤ scheme.max = leb-true scheme.min scheme.max (and_parts (nat_le 1 scheme.min) (nat_le scheme.min scheme.max) counts.0).1 in
      let measures = and_parts (nat_le 1 (length scheme.measures)) (nat_le (length scheme.measures) 16) (choose (nat_le 1 (length scheme.measures) && nat_le (length scheme.measures) 16) (nat_eq (length scheme.measures) 0) own (each_at _ plan.schemes valid.schemes.measures s scheme is)) in
      let some : 1 ≤ length scheme.measures = leb-true 1 (length scheme.measures) measures.0 in
      record {
        iterations = repeats scheme.kind scheme.min scheme.max (scheme_table plan s scheme) refl refl order own;
        measured = omega (arith, some, length-map scheme.measures (measure_entry plan));
      }
    where
      choose : {b : Bool} (x y : Bool) → b ≡ true → cond b x y ≡ true → x ≡ true
      choose {b} x y is holds = sym (ap (λ a. cond a x y) is) ∙ holds

  no_acceleration : (s : ℕ) (scheme : Scheme) (accel : Accel) → kinds.is_implicit scheme.kind ≡ false → is_acceleration plan s scheme accel ≡ true → accel_entry plan accel ≡ None
  no_acceleration s scheme A.None explicit holds = refl
  no_acceleration s scheme (A.Constant factor over) explicit holds = absurd (false≢true (sym explicit ∙ (and_parts _ _ (and_parts _ _ holds).0).0))
  no_acceleration s scheme (A.Aitken factor over) explicit holds = absurd (false≢true (sym explicit ∙ (and_parts _ _ (and_parts _ _ holds).0).0))

  once : (s : ℕ) (scheme : Scheme) → slice_get plan.schemes s ≡ Some scheme → is_implicit (scheme_table plan s scheme) ≡ false → RunsOnce (scheme_table plan s scheme)
  once s scheme is explicit =
      let own : kinds.is_implicit scheme.kind ≡ false = sym (implicit_is plan valid s scheme) ∙ explicit in
      let none : length scheme.measures ≡ 0 = eqb-true (length scheme.measures) 0 (choose _ (nat_eq (length scheme.measures) 0) own (each_at _ plan.schemes valid.schemes.measures s scheme is)) in
      record {
        no_greatest = none_told scheme.kind scheme.max own;
        no_least = none_told scheme.kind scheme.min own;
        no_measures = ap (map (measure_entry plan)) (nil_from_length scheme.measures none);
        no_acceleration = no_acceleration s scheme scheme.accel own (each_at _ plan.schemes valid.schemes.accelerations s scheme is);
      }
    where
      choose : {b : Bool} (x y : Bool) → b ≡ false → cond b x y ≡ true → y ≡ true
      choose {b} x y is holds = sym (ap (λ a. cond a x y) is) ∙ holds

  -- no circle

  some_members : (s : ℕ) (scheme : Scheme) → slice_get plan.schemes s ≡ Some scheme → 0 < length (members (scheme_table plan s scheme))
  some_members s scheme is =
      let names : List (List ℕ) = map (part_name plan) scheme.members in
      let same : length (members (scheme_table plan s scheme)) ≡ length names = ap (λ (ns : List (List ℕ)). length ns) (members_are plan valid s scheme is) in
      subst (λ (n : ℕ). 0 < n) (sym same) (by_kind scheme.kind names (names_counted plan valid s scheme is))
    where
      by_kind : (kind : SchemeKind) (names : List (List ℕ)) → has_members kind (length names) ≡ true → 0 < length names
      by_kind SerialExplicit names counted = omega (arith, eqb-true (length names) 2 counted)
      by_kind ParallelExplicit names counted = omega (arith, eqb-true (length names) 2 counted)
      by_kind SerialImplicit names counted = omega (arith, eqb-true (length names) 2 counted)
      by_kind ParallelImplicit names counted = omega (arith, eqb-true (length names) 2 counted)
      by_kind Multi names counted = omega (arith, leb-true 2 (length names) counted)

  known_schemes : KnownSchemes config
  known_schemes = record {
    declared = all_schemes plan valid (Declared config) declared;
    some = all_schemes plan valid (λ (table : SchemeTable). 0 < length (members table)) some_members;
    apart = λ i j d less within one_is other_is.
        let i_in : i < length config.scheme = omega (arith, less, within) in
        let one = scheme_from plan valid i (get_or config.scheme i d) (slice_get-get_or config.scheme i d i_in) in
        let other = scheme_from plan valid j (get_or config.scheme j d) (slice_get-get_or config.scheme j d within) in
        let differ : j ≢ i = λ same. omega (arith, same, less) in
        subst (λ (t : SchemeTable). ShareNone t (get_or config.scheme i d)) other.2
        (subst (λ (t : SchemeTable). ShareNone (scheme_table plan j other.0) t) one.2
        (share_none j i other.0 one.0 other.1 one.1 differ (ap is_implicit other.2 ∙ other_is) (ap is_implicit one.2 ∙ one_is)));
  }

  open_front : (before : List SchemeTable) (table : SchemeTable) (after : List SchemeTable) → config.scheme ≡ before ++ table ∷ after → ¬ GoesRound (steps_of config (before ++ table ∷ []))
  open_front before table after split round =
      no_cycle_there plan valid known_schemes
      (cycle_of_round config known_schemes (loose_round (steps_of config (before ++ table ∷ [])) (steps_of config config.scheme) (steps_before config before table after split) round))

  -- the schemes

  earlier_is : (before : List SchemeTable) (table : SchemeTable) (after : List SchemeTable) → config.scheme ≡ before ++ table ∷ after → (other : SchemeTable) → Contains before other
      → (t : ℕ) × (t < length before) × (scheme : Scheme) × (slice_get plan.schemes t ≡ Some scheme) × (scheme_table plan t scheme ≡ other)
  earlier_is before table after split other inside =
      let at = before_split config.scheme before table after split other inside in
      let from = scheme_from plan valid at.0 other at.2 in
      (at.0, at.1, from.0, from.1, from.2)

  scheme_fits : (before : List SchemeTable) (after : List SchemeTable) (scheme : Scheme) → slice_get plan.schemes (length before) ≡ Some scheme → config.scheme ≡ before ++ scheme_table plan (length before) scheme ∷ after
      → IsFitScheme config before (scheme_table plan (length before) scheme)
  scheme_fits before after scheme is split =
      let s : ℕ = length before in
      let table : SchemeTable = scheme_table plan s scheme in
      record {
        declared = declared s scheme is;
        two = two s scheme is;
        many = many s scheme is;
        meets_once = all_in (λ (other : SchemeTable). count_by (λ name. is_member name other) (members table) ≤ 1) before (λ other inside.
            let of = earlier_is before table after split other inside in
            subst (λ (t : SchemeTable). count_by (λ name. is_member name t) (members table) ≤ 1) of.4 (meets_once s of.0 scheme of.2 is of.3 (λ same. omega (arith, same, of.1))));
        one_group = λ implicit. all_in (λ (other : SchemeTable). is_implicit other ≡ true → ShareNone table other) before (λ other inside also.
            let of = earlier_is before table after split other inside in
            subst (λ (t : SchemeTable). ShareNone table t) of.4 (share_none s of.0 scheme of.2 is of.3 (λ same. omega (arith, same, of.1)) implicit (ap is_implicit of.4 ∙ also)));
        implicit = iterated s scheme is;
        explicit = once s scheme is;
        no_circle = open_front before table after split;
      }

  pub schemes_fit : FitSchemes config
  schemes_fit before table after split =
      let from = scheme_from plan valid (length before) table (at_split config.scheme before table after split) in
      subst (λ (t : SchemeTable). IsFitScheme config before t) from.2
      (scheme_fits before after from.0 from.1 (subst (λ (t : SchemeTable). config.scheme ≡ before ++ t ∷ after) (sym from.2) split))
