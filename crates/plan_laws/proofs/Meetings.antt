-- Who meets whom in the schemes of a valid plan.
use Rattle.std.proofs.Common.{◌≡◌, ◌≢◌, ℕ, ◌<◌, ◌≤◌, Bool, true, false, not, nat_eq, nat_le, cond, List, [], ◌∷◌, length, Option, Some, None, Contains, inl, inr, refl, ap, sym, ◌∙◌, arith}
use Rattle.std.specs.Prelude.{slice_get, count_by, option_to_list}
use Rattle.std.specs.List.{list_any}
use Rattle.std.proofs.lemmas.Bool.{and_parts, or_cases, leb-true, cases_eq, cases_Bool, not-true, false≢true, false_from_ne_true, eqb-true, eq-eqb}
use Rattle.std.proofs.lemmas.Option.{slice_get_within}
use Rattle.plan_order.proofs.Loops.{head_in, tail_in}
use Rattle.cpl_plan.specs.declared.parts.PlanParts.{PlanParts}
use Rattle.cpl_plan.specs.declared.parts.Scheme.{Scheme}
use Rattle.cpl_plan.specs.ExchangeKinds.{is_implicit}
use Rattle.cpl_plan.specs.PlanWords.{is_among, passes, numbers, are_distinct, is_member, schemes_of, schemes_of_both}
use Rattle.cpl_plan.specs.PlanTests.{groups_of}
use Rattle.cpl_plan.specs.ValidPlan.{IsValidPlan}
use Rattle.cpl_plan.proofs.Readings.{each_at, at_passes, in_filter, in_numbers, same_numbers, there}
use Rattle.config_laws.proofs.Members.{any_at}
use Rattle.config_laws.proofs.Truths.{counted}
use Rattle.plan_laws.proofs.Lists.{at_in, one_item}

-- two that differ are at two places of a list
two_in : (ns : List ℕ) (a b : ℕ) → Contains ns a → Contains ns b → a ≢ b → 2 ≤ length ns
two_in ns a b one other apart =
    let first = at_in ns a one in
    let second = at_in ns b other in
    let i_in : first.0 < length ns = slice_get_within ns first.0 a first.1 in
    let j_in : second.0 < length ns = slice_get_within ns second.0 b second.1 in
    elim (cases_eq first.0 second.0) [
      | inl same ↦ absurd (apart (one_item ns first.0 a b first.1 (ap (slice_get ns) same ∙ second.1)))
      | inr differ ↦ let apart_places : first.0 ≢ second.0 = differ in omega (arith, i_in, j_in, apart_places)
    ]

-- of distinct numbers of which no two pass there is one at most
none_counts : (test : ℕ → Bool) (ns : List ℕ) → ((a : ℕ) → Contains ns a → test a ≡ false) → count_by test ns ≡ 0
none_counts test [] none = refl
none_counts test (n ∷ ns) none =
    let rest : count_by test ns ≡ 0 = none_counts test ns (λ a inside. none a (tail_in n ns a inside)) in
    let here : ◌≡◌ {A = ℕ} (cond (test n) 1 0) 0 = ap (λ b. cond {A = ℕ} b 1 0) (none n (head_in n ns)) in
    omega (arith, counted test n ns, rest, here)

pub one_counts : (test : ℕ → Bool) (ns : List ℕ) → are_distinct nat_eq ns ≡ true → ((a b : ℕ) → Contains ns a → Contains ns b → test a ≡ true → test b ≡ true → a ≡ b) → count_by test ns ≤ 1
one_counts test [] distinct one = omega arith
one_counts test (n ∷ ns) distinct one =
    let parts = and_parts (not (list_any (nat_eq n) ns)) (are_distinct nat_eq ns) distinct in
    elim (cases_Bool (test n)) [
      | inl passing ↦
          let rest : count_by test ns ≡ 0 = none_counts test ns (λ a inside. false_from_ne_true (test a) (λ also.
          let same : n ≡ a = one n a (head_in n ns) (tail_in n ns a inside) passing also in
          false≢true (sym (not-true (list_any (nat_eq n) ns) parts.0) ∙ any_at (nat_eq n) ns a inside (eq-eqb n a same)))) in
          let here : ◌≡◌ {A = ℕ} (cond (test n) 1 0) 1 = ap (λ b. cond {A = ℕ} b 1 0) passing in
          omega (arith, counted test n ns, rest, here)
      | inr failing ↦
          let rest : count_by test ns ≤ 1 = one_counts test ns parts.1 (λ a b a_in b_in. one a b (tail_in n ns a a_in) (tail_in n ns b b_in)) in
          let here : ◌≡◌ {A = ℕ} (cond (test n) 1 0) 0 = ap (λ b. cond {A = ℕ} b 1 0) failing in
          omega (arith, counted test n ns, rest, here)
    ]

module _ (plan : PlanParts) (valid : IsValidPlan plan) where
  scheme_of_member : (s : ℕ) (scheme : Scheme) → slice_get plan.schemes s ≡ Some scheme → (p : ℕ) → is_among p scheme.members ≡ true → Contains (schemes_of plan p) s
  scheme_of_member s scheme is p among =
      in_filter (λ t. is_member plan t p) (numbers plan.schemes) s (in_numbers plan.schemes s (slice_get_within plan.schemes s scheme is))
      (at_passes plan.schemes s (λ (t : Scheme). is_among p t.members) scheme is among)

  -- two participants meet in one scheme at most
  both_in : (s : ℕ) (scheme : Scheme) → slice_get plan.schemes s ≡ Some scheme → (p q : ℕ) → is_among p scheme.members ≡ true → is_among q scheme.members ≡ true → Contains (schemes_of_both plan p q) s
  both_in s scheme is p q one other =
      in_filter (λ t. is_member plan t q) (schemes_of plan p) s (scheme_of_member s scheme is p one) (at_passes plan.schemes s (λ (t : Scheme). is_among q t.members) scheme is other)

  pub meet_once : (s t : ℕ) (one other : Scheme) → slice_get plan.schemes s ≡ Some one → slice_get plan.schemes t ≡ Some other → s ≢ t
      → (p q : ℕ) → p < length plan.parts → q < length plan.parts → is_among p one.members ≡ true → is_among q one.members ≡ true → is_among p other.members ≡ true → is_among q other.members ≡ true → p ≡ q
  meet_once s t one other one_at other_at apart p q p_in q_in p_one q_one p_other q_other =
      let first = there plan.parts p p_in in
      let second = there plan.parts q q_in in
      let met = each_at _ plan.parts (each_at _ plan.parts valid.schemes.meet_once p first.0 first.1) q second.0 second.1 in
      elim (or_cases (nat_eq p q) (nat_le (length (schemes_of_both plan p q)) 1) met) [
        | inl same ↦ eqb-true p q same
        | inr few ↦
            let two : 2 ≤ length (schemes_of_both plan p q) = two_in (schemes_of_both plan p q) s t (both_in s one one_at p q p_one q_one) (both_in t other other_at p q p_other q_other) apart in
            let at_most : length (schemes_of_both plan p q) ≤ 1 = leb-true (length (schemes_of_both plan p q)) 1 few in
            absurd (omega (arith, two, at_most))
      ]

  -- no participant is in two implicit schemes

  group_in : (s : ℕ) (scheme : Scheme) → slice_get plan.schemes s ≡ Some scheme → is_implicit scheme.kind ≡ true → (p : ℕ) → is_among p scheme.members ≡ true → Contains (groups_of plan p) s
  group_in s scheme is implicit p among =
      in_filter (λ t. passes plan.schemes t (λ (x : Scheme). is_implicit x.kind)) (schemes_of plan p) s (scheme_of_member s scheme is p among)
      (at_passes plan.schemes s (λ (x : Scheme). is_implicit x.kind) scheme is implicit)

  one_at_most : (o : Option ℕ) → length (option_to_list o) ≤ 1
  one_at_most None = omega arith
  one_at_most (Some n) = omega arith

  pub one_group : (s t : ℕ) (one other : Scheme) → slice_get plan.schemes s ≡ Some one → slice_get plan.schemes t ≡ Some other → s ≢ t → is_implicit one.kind ≡ true → is_implicit other.kind ≡ true
      → (p : ℕ) → p < length plan.parts → is_among p one.members ≡ true → is_among p other.members ≡ true → ⊥
  one_group s t one other one_at other_at apart one_is other_is p p_in p_one p_other =
      let part = there plan.parts p p_in in
      let groups : groups_of plan p ≡ option_to_list part.0.group = same_numbers (groups_of plan p) (option_to_list part.0.group) (each_at _ plan.parts valid.participants.in_one_group p part.0 part.1) in
      let two : 2 ≤ length (groups_of plan p) = two_in (groups_of plan p) s t (group_in s one one_at one_is p p_one) (group_in t other other_at other_is p p_other) apart in
      let few : length (option_to_list part.0.group) ≤ 1 = one_at_most part.0.group in
      let same : length (groups_of plan p) ≡ length (option_to_list part.0.group) = ap (λ (ns : List ℕ). length ns) groups in
      omega (arith, two, few, same)
