-- Participants in the schemes of the plan of an accepted configuration.
use Rattle.std.proofs.Common.{◌≡◌, ℕ, suc, ◌+◌, ◌<◌, ◌≤◌, Bool, true, false, not, ◌&&◌, ◌||◌, cond, nat_eq, nat_le, nat_lt, inl, inr, List, [], ◌∷◌, length, map, get_or, position, Option, Some, None, refl, ap, sym, subst, ◌∙◌, arith}
use Rattle.std.specs.Prelude.{slice_get, filter, AllPairs, Contains}
use Rattle.std.specs.List.{list_any, range_with_len, enumerate_from, position_or_len}
use Rattle.std.specs.Cmp.Lexicographic.{pointwise}
use Rattle.std.specs.Option.{option_map_or, option_to_list}
use Rattle.std.proofs.lemmas.Bool.{and_parts, eq-eqb, le-leb, ltb-true, cases_Bool, cases_eq, cases_lt, false≢true}
use Rattle.std.proofs.lemmas.Option.{slice_get_within, slice_get-get_or, get_or_from_slice_get}
use Rattle.std.proofs.lemmas.List.{length-map}
use Rattle.std.proofs.lemmas.List.FromFn.{length-enumerate_from}
use Rattle.std.proofs.lemmas.List.Elements.{All-contains}
use Rattle.cpl_config.specs.declared.config.Config.{Config}
use Rattle.cpl_config.specs.declared.config.PartTable.{PartTable}
use Rattle.cpl_config.specs.declared.config.SchemeTable.{SchemeTable}
use Rattle.cpl_config.specs.SoundConfig.{IsSoundConfig}
use Rattle.cpl_plan.specs.declared.parts.PlanParts.{PlanParts}
use Rattle.cpl_plan.specs.declared.parts.Scheme.{Scheme}
use Rattle.cpl_plan.specs.ExchangeKinds as kinds
use Rattle.cpl_plan.specs.PlanWords as words
use Rattle.cpl_plan.specs.PlanTests as tests
use Rattle.cpl_plan.proofs.Readings.{there, in_filter, in_numbers}
use Rattle.plan_order.specs.declared.node.Node.{Node}
use Rattle.config_rules.specs.ConfigRules.{IsAccepted}
use Rattle.config_rules.specs.Members.{is_implicit, is_member, members}
use Rattle.config_laws.specs.FitMeshes.{IsFitParticipant}
use Rattle.config_laws.specs.FitSchemes.{ShareNone}
use Rattle.config_laws.specs.ToldOnce.{ShareOne}
use Rattle.config_laws.proofs.Members.{any_found}
use Rattle.config_laws.proofs.Truths.{among, fails, none_passes, first_found}
use Rattle.config_laws.proofs.OnceFacts.{met_once, grouped_once}
use Rattle.config_laws.proofs.WholeFacts as facts
use Rattle.scheme_parts.specs.NumbersOf.{part_number, exchanges_before}
use Rattle.scheme_parts.specs.SchemeOf.{scheme_of}
use Rattle.scheme_parts.proofs.Tables.{all_at, each_map, numbered_at, found_passes, found_place}
use Rattle.scheme_parts.proofs.NamedTables.{place_is_number}
use Rattle.scheme_parts.proofs.Ranges.{only_number, no_number, at_most_one, filter_twice}
use Rattle.plan_build.specs.PartOf.{part_of, group_of}
use Rattle.plan_build.specs.PlanOf.{plan_of, schemes_of}
use Rattle.plan_build.proofs.PlanReadings.{part_name, part_itself}
use Rattle.plan_build.proofs.PlanReadings as readings

-- two items of which the first stands before the second
pub pair_at : {X : Type 0} (R : X → X → Type 0) (xs : List X) (i j : ℕ) (x y : X) → AllPairs R xs → i < j → slice_get xs i ≡ Some x → slice_get xs j ≡ Some y → R x y
pair_at {X} R xs i j x y pairs less at at' =
    subst (λ (z : X). R z y) (get_or_from_slice_get xs i x x at)
    (subst (λ (z : X). R (get_or xs i x) z) (get_or_from_slice_get xs j y x at') (pairs i j x less (slice_get_within xs j y at')))

no_place : {X : Type 0} (test : X → Bool) (xs : List X) → list_any test xs ≡ false → position_or_len test xs ≡ length xs
no_place test [] none = refl
no_place test (x ∷ xs) none = by_first (test x) none (no_place test xs)
  where
    by_first : (b : Bool) → (b || list_any test xs) ≡ false → (list_any test xs ≡ false → position_or_len test xs ≡ length xs) → cond (not b) (1 + position_or_len test xs) 0 ≡ suc (length xs)
    by_first true none rest = absurd (cc)
    by_first false none rest = omega (arith, rest none)

not_below : (n m : ℕ) → n ≡ m → (nat_lt n m ≡ true → ⊥)
not_below n m same is = omega (arith, same, ltb-true n m is)

pub nowhere : {X : Type 0} (test : X → Bool) (xs : List X) → list_any test xs ≡ false → position test xs ≡ None
nowhere test xs none =
    let n : ℕ = position_or_len test xs in
    ap (λ b. cond b (Some n) None) (fails (nat_lt n (length xs)) (not_below n (length xs) (no_place test xs none)))

member_not : (name : List ℕ) (one other : SchemeTable) → ShareNone other one → is_member name one ≡ true → is_member name other ≡ true → ⊥
member_not name one other none is is' = false≢true (sym (All-contains (λ n. is_member n one ≡ false) (members other) name none (among name (members other) is')) ∙ is)

module _ (config : Config) (sound : IsSoundConfig config) (accepted : IsAccepted config) (nodes : List Node) where
  abbrev plan : PlanParts
  plan = plan_of config nodes

  count : length (schemes_of config) ≡ length config.scheme
  count =
      let make : ℕ × SchemeTable → Scheme = λ numbered. scheme_of config (exchanges_before config numbered.0) numbered.1 in
      length-map (enumerate_from 0 config.scheme) make ∙ length-enumerate_from 0 config.scheme

  scheme_there : (s : ℕ) → s < length (schemes_of config) → (table : SchemeTable) × (slice_get config.scheme s ≡ Some table)
  scheme_there s less = there config.scheme s (omega (arith, less, count))

  -- a participant is a member by its number where it is by its name
  member_by : (p : ℕ) (table : PartTable) (s : ℕ) (scheme : SchemeTable) → slice_get config.participant p ≡ Some table → slice_get config.scheme s ≡ Some scheme → words.is_member plan s p ≡ is_member table.name scheme
  member_by p table s scheme at at_scheme =
      let number : part_number config table.name ≡ p = place_is_number part_name config.participant p table sound.participant_once at in
      ap (words.is_member plan s) (sym number) ∙ readings.member_is config accepted nodes s scheme table.name at_scheme (part_itself config p table at)

  some_scheme : (p : ℕ) (table : PartTable) → slice_get config.participant p ≡ Some table → nat_le 1 (length (words.schemes_of plan p)) ≡ true
  some_scheme p table at =
      let fit = all_at (IsFitParticipant config) config.participant p table (facts.participants config accepted) at in
      let found = any_found (is_member table.name) config.scheme fit.in_a_scheme in
      let s : ℕ = found.1.0 in
      let at_scheme : slice_get config.scheme s ≡ Some found.0 = slice_get-get_or config.scheme s found.0 found.1.1 ∙ ap Some found.1.2 in
      let member : words.is_member plan s p ≡ true = member_by p table s found.0 at at_scheme ∙ found.2 in
      let inside : Contains (words.schemes_of plan p) s = in_filter (λ scheme. words.is_member plan scheme p) (words.numbers (schemes_of config)) s (in_numbers (schemes_of config) s (omega (arith, found.1.1, count))) member in
      le-leb 1 (length (words.schemes_of plan p)) (omega (arith, inside.1))

  pub in_a_scheme : tests.are_in_a_scheme plan ≡ true
  in_a_scheme = each_map (part_of config) config.participant (λ p _. nat_le 1 (length (words.schemes_of plan p))) some_scheme

  -- a scheme is a participant's group by numbers where it is by names
  group_test : ℕ → ℕ → Bool
  group_test p s = words.is_member plan s p && words.passes (schemes_of config) s (λ scheme. kinds.is_implicit scheme.kind)

  groups_are : (p : ℕ) → tests.groups_of plan p ≡ filter (group_test p) (range_with_len 0 (length (schemes_of config)))
  unfolding group_test
  groups_are p = filter_twice (λ s. words.is_member plan s p) (λ s. words.passes (schemes_of config) s (λ scheme. kinds.is_implicit scheme.kind)) (range_with_len 0 (length (schemes_of config)))

  swap : (a b : Bool) → (a && b) ≡ (b && a)
  swap true true = refl
  swap true false = refl
  swap false true = refl
  swap false false = refl

  is_group : (p : ℕ) (table : PartTable) (s : ℕ) (scheme : SchemeTable) → slice_get config.participant p ≡ Some table → slice_get config.scheme s ≡ Some scheme → group_test p s ≡ (is_implicit scheme && is_member table.name scheme)
  unfolding group_test
  is_group p table s scheme at at_scheme =
      let kind : words.passes (schemes_of config) s (λ other. kinds.is_implicit other.kind) ≡ is_implicit scheme =
      ap (λ o. option_map_or (λ other. kinds.is_implicit other.kind) o false) (numbered_at (λ (numbered : ℕ × SchemeTable). scheme_of config (exchanges_before config numbered.0) numbered.1) config.scheme s scheme at_scheme) in
      ap (λ b. b && words.passes (schemes_of config) s (λ other. kinds.is_implicit other.kind)) (member_by p table s scheme at at_scheme)
      ∙ (ap (λ b. is_member table.name scheme && b) kind ∙ swap (is_member table.name scheme) (is_implicit scheme))

  -- no participant is in two implicit schemes
  same_group : (name : List ℕ) (i j : ℕ) (one other : SchemeTable) → slice_get config.scheme i ≡ Some one → slice_get config.scheme j ≡ Some other
      → (is_implicit one && is_member name one) ≡ true → (is_implicit other && is_member name other) ≡ true → i ≡ j
  same_group name i j one other at at' is is' =
      let parts = and_parts (is_implicit one) (is_member name one) is in
      let parts' = and_parts (is_implicit other) (is_member name other) is' in
      let pairs = grouped_once config (facts.schemes config accepted) in
      let R : SchemeTable → SchemeTable → Type 0 = λ a b. is_implicit a ≡ true → is_implicit b ≡ true → ShareNone b a in
      elim (cases_eq i j) [
        | inl same ↦ same
        | inr differ ↦ elim (cases_lt i j) [
          | inl less ↦ absurd (member_not name one other (pair_at R config.scheme i j one other pairs less at at' parts.0 parts'.0) parts.1 parts'.1)
          | inr more ↦ absurd (member_not name other one (pair_at R config.scheme j i other one pairs (omega (arith, more, differ)) at' at parts'.0 parts.0) parts'.1 parts.1)
        ]
      ]

  one_group : (p : ℕ) (table : PartTable) → slice_get config.participant p ≡ Some table → pointwise nat_eq (tests.groups_of plan p) (option_to_list (group_of config table.name)) ≡ true
  one_group p table at =
      let test : SchemeTable → Bool = λ scheme. is_implicit scheme && is_member table.name scheme in
      let n : ℕ = length (schemes_of config) in
      elim (cases_Bool (list_any test config.scheme)) [
        | inl some ↦
            let found = first_found test config.scheme some in
            let place = found_place test config.scheme found.0 found.1 in
            let k : ℕ = place.0 in
            let less : k < n = omega (arith, slice_get_within config.scheme k found.0 place.2, count) in
            let holds : group_test p k ≡ true = is_group p table k found.0 at place.2 ∙ found_passes test config.scheme found.0 found.1 in
            let listed : tests.groups_of plan p ≡ k ∷ [] =
            groups_are p ∙ only_number (group_test p) n k less holds
            (λ j more is. let item = scheme_there j more in same_group table.name j k item.0 found.0 item.1 place.2 (sym (is_group p table j item.0 at item.1) ∙ is) (found_passes test config.scheme found.0 found.1)) in
            let group : group_of config table.name ≡ Some k = place.1 in
            ap (λ (xs : List ℕ). pointwise nat_eq xs (option_to_list (group_of config table.name))) listed
            ∙ (ap (λ (o : Option ℕ). pointwise nat_eq (k ∷ []) (option_to_list o)) group ∙ ap (λ b. b && true) (eq-eqb k k refl))
        | inr none ↦
            let listed : tests.groups_of plan p ≡ [] =
            groups_are p ∙ no_number (group_test p) n
            (λ j more. let item = scheme_there j more in is_group p table j item.0 at item.1 ∙ all_at (λ (scheme : SchemeTable). test scheme ≡ false) config.scheme j item.0 (none_passes test config.scheme none) item.1) in
            let group : group_of config table.name ≡ None = nowhere test config.scheme none in
            ap (λ (xs : List ℕ). pointwise nat_eq xs (option_to_list (group_of config table.name))) listed ∙ ap (λ (o : Option ℕ). pointwise nat_eq [] (option_to_list o)) group
      ]

  pub in_one_group : tests.are_in_one_group plan ≡ true
  in_one_group = each_map (part_of config) config.participant (λ p part. pointwise nat_eq (tests.groups_of plan p) (option_to_list part.group)) one_group

  -- two participants meet in one scheme at most
  meet : (p q : ℕ) (table other : PartTable) → slice_get config.participant p ≡ Some table → slice_get config.participant q ≡ Some other → nat_eq p q ≡ false → length (words.schemes_of_both plan p q) ≤ 1
  meet p q table other at at' apart =
      let n : ℕ = length (schemes_of config) in
      let both : ℕ → Bool = λ s. words.is_member plan s p && words.is_member plan s q in
      let twice : words.schemes_of_both plan p q ≡ filter both (range_with_len 0 n) = filter_twice (λ s. words.is_member plan s p) (λ s. words.is_member plan s q) (range_with_len 0 n) in
      let member : (s : ℕ) (scheme : SchemeTable) → slice_get config.scheme s ≡ Some scheme → both s ≡ true → (is_member table.name scheme ≡ true) × (is_member other.name scheme ≡ true) =
      λ s scheme at_scheme is.
      let parts = and_parts (words.is_member plan s p) (words.is_member plan s q) is in
      (sym (member_by p table s scheme at at_scheme) ∙ parts.0, sym (member_by q other s scheme at' at_scheme) ∙ parts.1) in
      let differ : table.name ≡ other.name → ⊥ =
      λ same.
      let number : part_number config table.name ≡ p = place_is_number part_name config.participant p table sound.participant_once at in
      let number' : part_number config other.name ≡ q = place_is_number part_name config.participant q other sound.participant_once at' in
      false≢true (sym apart ∙ eq-eqb p q (sym number ∙ (ap (part_number config) same ∙ number'))) in
      let one : (i j : ℕ) → i < n → j < n → both i ≡ true → both j ≡ true → i ≡ j =
      λ i j less less' is is'.
      let first = scheme_there i less in
      let second = scheme_there j less' in
      let in_first = member i first.0 first.1 is in
      let in_second = member j second.0 second.1 is' in
      elim (cases_eq i j) [
        | inl same ↦ same
        | inr unlike ↦ elim (cases_lt i j) [
          | inl lower ↦ absurd (differ (pair_at ShareOne config.scheme i j first.0 second.0 (met_once config accepted) lower first.1 second.1 table.name other.name in_first.0 in_first.1 in_second.0 in_second.1))
          | inr upper ↦ absurd (differ (pair_at ShareOne config.scheme j i second.0 first.0 (met_once config accepted) (omega (arith, upper, unlike)) second.1 first.1 table.name other.name in_second.0 in_second.1 in_first.0 in_first.1))
        ]
      ] in
      let few = at_most_one both n one in
      omega (arith, few, ap length twice)

  pub meet_once : tests.do_meet_once plan ≡ true
  meet_once = each_map (part_of config) config.participant (λ p _. words.each (map (part_of config) config.participant) (λ q _. nat_eq p q || nat_le (length (words.schemes_of_both plan p q)) 1))
      (λ p table at. each_map (part_of config) config.participant (λ q _. nat_eq p q || nat_le (length (words.schemes_of_both plan p q)) 1)
      (λ q other at'. elim (cases_Bool (nat_eq p q)) [
        | inl same ↦ ap (λ b. b || nat_le (length (words.schemes_of_both plan p q)) 1) same
        | inr apart ↦ ap (λ b. b || nat_le (length (words.schemes_of_both plan p q)) 1) apart ∙ le-leb (length (words.schemes_of_both plan p q)) 1 (meet p q table other at at' apart)
      ]))
