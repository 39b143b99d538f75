-- The windows of a plan fit the configuration that it is written as.
use Rattle.std.proofs.Common.{◌≡◌, ℕ, zero, suc, ◌*◌, ◌^◌, ◌≤◌, true, ◌&&◌, nat_eq, List, [], ◌∷◌, map, pos, Some, inl, refl, ap, sym, subst, ◌∙◌, arith, mul-le-mul_left, mul_comm}
use Rattle.std.specs.Prelude.{slice_get, unsigned_abs}
use Rattle.std.specs.List.{enumerate_from}
use Rattle.std.proofs.lemmas.Bool.{and_parts, eqb-true}
use Rattle.std.proofs.lemmas.Grind.{div_ceil_times}
use Rattle.plan_order.proofs.Named.{in_map}
use Rattle.cpl_plan.specs.declared.parts.PlanParts.{PlanParts}
use Rattle.cpl_plan.specs.declared.parts.WindowMethod.{WindowMethod}
use Rattle.cpl_plan.specs.declared.parts.WindowMethod.TheVariants.{Fixed, FirstParticipant}
use Rattle.cpl_plan.specs.declared.parts.Exchange.{Exchange}
use Rattle.cpl_plan.specs.declared.parts.Scheme.{Scheme}
use Rattle.cpl_plan.specs.declared.parts.SchemeKind.{SchemeKind}
use Rattle.cpl_plan.specs.declared.parts.SchemeKind.TheVariants.{SerialExplicit}
use Rattle.cpl_plan.specs.Needs.{is_second}
use Rattle.cpl_plan.specs.PlanWords.{passes}
use Rattle.cpl_plan.specs.PlanTests.{reaches_end}
use Rattle.cpl_plan.specs.Windows.{windows_to_reach}
use Rattle.cpl_plan.specs.ValidPlan.{IsValidPlan}
use Rattle.cpl_plan.proofs.Readings.{passes_at, in_filter}
use Rattle.cpl_plan.proofs.FirstStep.{one_scheme, to_second}
use Rattle.cpl_config.specs.declared.kind_words.WindowWord.TheVariants as W
use Rattle.cpl_config.specs.declared.config.Config.{Config}
use Rattle.config_laws.specs.FitMeshes.{HasEnd, EndsBy}
use Rattle.config_laws.specs.FitSchemes.{HasWindowMaker}
use Rattle.config_laws.specs.FitConfig.{FitWindows}
use Rattle.plan_laws.specs.PlanNames.{part_name}
use Rattle.plan_laws.specs.PlanSchemes.{kind_word, one_of_two, exchange_entry, exchanges_of, scheme_table}
use Rattle.plan_laws.specs.ConfigOfPlan.{window_word, windows_told, config_of_plan}
use Rattle.plan_laws.proofs.Lists.{in_at, at_mapped, some_is}

method_back : (method : WindowMethod) → window_word method ≡ W.FirstParticipant → method ≡ FirstParticipant
method_back Fixed is = cc
method_back FirstParticipant is = refl

-- as few windows as reach an end reach it
reached : (size end : ℕ) → 1 ≤ size → end ≤ windows_to_reach size end * size
reached size end some = (div_ceil_times end size some).0

ends_by : (config : Config) (method : WindowMethod) (size end most : ℕ) → config.max_time ≡ Some (pos end) → config.max_windows ≡ windows_told method most → unsigned_abs config.window ≡ size
    → 1 ≤ size → reaches_end method size end most ≡ true → most ≤ 10 ^ 6 → EndsBy config (window_word method)
ends_by config Fixed size end most time windows window some reach few =
    let same : most ≡ windows_to_reach size end = eqb-true most (windows_to_reach size end) reach in
    let enough : end ≤ most * size = subst (λ (n : ℕ). end ≤ n * size) (sym same) (reached size end some) in
    let least : size * most ≤ size * 10 ^ 6 = mul-le-mul_left size few in
    let near : end ≤ 10 ^ 6 * size = omega (arith, enough, least, mul_comm most size, mul_comm size (10 ^ 6)) in
    inl (record {
      time = pos end;
      told = time;
      alone = windows;
      near = subst (λ (n : ℕ). end ≤ 10 ^ 6 * n) (sym window) near;
    })
ends_by config FirstParticipant size end most time windows window some reach few = record { windows = pos most; told = windows }

module _ (plan : PlanParts) (valid : IsValidPlan plan) where
  abbrev config : Config
  config = config_of_plan plan

  pub has_end : HasEnd config
  has_end = ends_by config plan.method plan.window plan.end_time plan.most_windows refl refl refl valid.sizes.window.0 valid.sizes.windows_reach valid.sizes.windows.1

  one_of_serial : (kind : SchemeKind) (place : ℕ) (names : List (List ℕ)) → kind ≡ SerialExplicit → one_of_two kind place names ≡ slice_get names place
  one_of_serial kind place names is = ap (λ (k : SchemeKind). one_of_two k place names) is

  maker : plan.method ≡ FirstParticipant → HasWindowMaker config
  maker method =
      let scheme = one_scheme plan valid method in
      let to = to_second plan valid method in
      let at = passes_at plan.schemes to.1.scheme (λ (s : Scheme). passes s.members 0 (λ first. nat_eq first to.1.from) && is_second s to.1.to) to.3 in
      let only : slice_get (scheme.0 ∷ []) to.1.scheme ≡ Some at.0 = ap (λ (schemes : List Scheme). slice_get schemes to.1.scheme) (sym scheme.1) ∙ at.1 in
      let alone = the_one to.1.scheme scheme.0 at.0 only in
      let parts = and_parts _ _ (subst (λ (s : Scheme). (passes s.members 0 (λ first. nat_eq first to.1.from) && is_second s to.1.to) ≡ true) (sym alone.1) at.2) in
      let first = passes_at scheme.0.members 0 (λ member. nat_eq member to.1.from) parts.0 in
      let second = passes_at scheme.0.members 1 (λ member. nat_eq member to.1.to) parts.1 in
      record {
        table = scheme_table plan 0 scheme.0;
        alone = ap (λ (schemes : List Scheme). map (λ (entry : ℕ × Scheme). scheme_table plan entry.0 entry.1) (enumerate_from 0 schemes)) scheme.1;
        serial_explicit = ap kind_word scheme.2;
        forward = exchange_entry plan to.1;
        there = in_map (exchange_entry plan) (exchanges_of plan 0) to.1 (in_filter (λ (e : Exchange). nat_eq e.scheme 0) plan.exchanges to.1 (in_at plan.exchanges to.0 to.1 to.2) (ap (λ s. nat_eq s 0) alone.0));
        from_first = one_of_serial scheme.0.kind 0 (map (part_name plan) scheme.0.members) scheme.2
            ∙ at_mapped (part_name plan) scheme.0.members 0 to.1.from (first.1 ∙ ap (λ (p : ℕ). Some p) (eqb-true first.0 to.1.from first.2));
        to_second = one_of_serial scheme.0.kind 1 (map (part_name plan) scheme.0.members) scheme.2
            ∙ at_mapped (part_name plan) scheme.0.members 1 to.1.to (second.1 ∙ ap (λ (p : ℕ). Some p) (eqb-true second.0 to.1.to second.2));
      }
    where
      the_one : (s : ℕ) (one other : Scheme) → slice_get (one ∷ []) s ≡ Some other → (s ≡ 0) × (one ≡ other)
      the_one zero one other is = (refl, some_is one other is)
      the_one (suc s) one other is = cc

  pub windows_fit : FitWindows config
  windows_fit is = maker (method_back plan.method is)
