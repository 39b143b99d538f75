-- What a valid plan says of a scheme's measures and accelerated exchanges.
use Rattle.std.proofs.Common.{◌≡◌, ℕ, suc, ◌*◌, ◌<◌, ◌≤◌, inl, inr, Bool, true, false, ◌&&◌, ◌||◌, not, nat_eq, nat_le, cond, List, [], ◌∷◌, length, get_or, Option, Some, None, option_map, Contains, arith, refl, ap, sym, subst, ◌∙◌}
use Rattle.std.specs.Prelude.{slice_get, sum_by, filter, position, option_to_list, AllPairs}
use Rattle.std.specs.List.{range_with_len, list_all}
use Rattle.std.specs.Prelude.{nat_lt}
use Rattle.std.specs.Option.{option_map_or, option_and_then}
use Rattle.std.specs.Cmp.Lexicographic.{pointwise}
use Rattle.std.proofs.lemmas.Bool.{and_parts, or_cases, eqb-true, leb-true, lt-ltb, eq-eqb, ne_eqb}
use Rattle.std.proofs.lemmas.Option.{slice_get_within, get_or_from_slice_get, slice_get-get_or}
use Rattle.std.proofs.lemmas.List.Kept.{AllPairs-filter}
use Rattle.std.proofs.lemmas.List.Filters.{length-filter_both}
use Rattle.std.proofs.lemmas.List.FromFn.{length-range_with_len, get_or-range_with_len}
use Rattle.std.proofs.lemmas.List.Sums.{AllPass-from_list_all, position_or_len_is, sum_by-cons}
use Rattle.cpl_plan.specs.PlanWords.{numbers, passes, is_among, components_of, components}
use Rattle.cpl_plan.specs.PlanTests.{has_measures, looks_at_the_first, carriers, data_carried, is_iterated, are_accelerated, is_acceleration, is_part_of_one}
use Rattle.cpl_plan.specs.ExchangeKinds.{is_implicit}
use Rattle.cpl_plan.specs.ValidPlan.{IsValidPlan}
use Rattle.cpl_plan.specs.declared.parts.PlanParts.{PlanParts}
use Rattle.cpl_plan.specs.declared.parts.Accel.{Accel}
use Rattle.cpl_plan.specs.declared.parts.Accel.TheVariants.{None as NoAccel, Constant, Aitken}
use Rattle.cpl_plan.specs.declared.parts.DataPlan.{DataPlan}
use Rattle.cpl_plan.specs.declared.parts.MeshPlan.{MeshPlan}
use Rattle.cpl_plan.specs.declared.parts.Exchange.{Exchange}
use Rattle.cpl_plan.specs.declared.parts.Measure.{Measure}
use Rattle.cpl_plan.specs.declared.parts.Scheme.{Scheme}
use Rattle.cpl_plan.proofs.Readings.{each_at, passes_at, filter_in, same_numbers}
use Rattle.wave_coupling.specs.InputWave.{over}
use Rattle.group_course.specs.Norms.{IsExchangeOf}
use Rattle.group_course.specs.Taken.{degree_in}

few_by : (b : Bool) (n : ℕ) → cond b (nat_le 1 n && nat_le n 16) (nat_eq n 0) ≡ true → n ≤ 16
few_by true n is = leb-true n 16 (and_parts (nat_le 1 n) (nat_le n 16) is).1
few_by false n is = omega (arith, eqb-true n 0 is)

pub found_in : (xs : List ℕ) (i x : ℕ) → slice_get xs i ≡ Some x → Contains xs x
found_in xs i x is = (i, slice_get_within xs i x is, get_or_from_slice_get xs i x x is)

-- numbers from one on rise
range_rises : (start n : ℕ) → AllPairs (λ (a b : ℕ). a < b) (range_with_len start n)
range_rises start n = λ i j d less inside.
    let within : j < n = omega (arith, inside, length-range_with_len start n) in
    omega (arith, get_or-range_with_len start n i d (omega (arith, less, within)), get_or-range_with_len start n j d within, less)

-- among numbers that rise each stands in its own place alone
pub own_place : (xs : List ℕ) → AllPairs (λ (a b : ℕ). a < b) xs → (i x : ℕ) → slice_get xs i ≡ Some x → position (nat_eq x) xs ≡ Some i
own_place xs rises i x is =
    let inside = slice_get_within xs i x is in
    let here = get_or_from_slice_get xs i x 0 is in
    let at = position_or_len_is (nat_eq x) xs i 0 (omega (arith, inside))
    (λ k before. ne_eqb x (get_or xs k 0) (λ same. absurd (omega (arith, rises k i 0 before inside, here, same))))
    (λ _. eq-eqb x (get_or xs i 0) (sym here)) in
    ap (λ (n : ℕ). cond (nat_lt n (length xs)) (Some n) None) at ∙ ap (λ b. cond b (Some i) None) (lt-ltb i (length xs) inside)

-- the sums over the same numbers
pub sum_at_most : (f g : ℕ → ℕ) (xs : List ℕ) → ((x : ℕ) → Contains xs x → f x ≤ 10000 * g x) → sum_by f xs ≤ 10000 * sum_by g xs
sum_at_most f g [] each = omega arith
sum_at_most f g (x ∷ xs) each = omega (arith, sum_by-cons f x xs, sum_by-cons g x xs, each x (0, omega arith, refl), sum_at_most f g xs (λ y inside. each y (suc inside.0, omega (arith, inside.1), inside.2)))

pub sum_same : (f g : ℕ → ℕ) (xs : List ℕ) → ((x : ℕ) → Contains xs x → f x ≡ g x) → sum_by f xs ≡ sum_by g xs
sum_same f g [] each = refl
sum_same f g (x ∷ xs) each = omega (arith, sum_by-cons f x xs, sum_by-cons g x xs, each x (0, omega arith, refl), sum_same f g xs (λ y inside. each y (suc inside.0, omega (arith, inside.1), inside.2)))

fewer : (p : ℕ → Bool) (xs : List ℕ) → length (filter p xs) ≤ length xs
fewer p xs = omega (arith, length-filter_both p (λ x. not (p x)) (λ x. refl) xs)

dimensions_by : (n : ℕ) → (nat_eq n 2 || nat_eq n 3) ≡ true → n ≤ 3
dimensions_by n is = elim (or_cases (nat_eq n 2) (nat_eq n 3) is) [ inl two ↦ omega (arith, eqb-true n 2 two) | inr three ↦ omega (arith, eqb-true n 3 three) ]

components_by : (d : DataPlan) (m : MeshPlan) → m.dimensions ≤ 3 → components d m ≤ 3
components_by d m few = elim d.vector as (λ b. cond b m.dimensions 1 ≤ 3) [ true ↦ few | false ↦ omega arith ]

-- what the accelerated exchanges of a scheme are
pub record IsOver (plan : PlanParts) (s : ℕ) (xs : List ℕ) : Type 0 where
  pub own : (x : ℕ) → Contains xs x → IsExchangeOf plan s x
  pub rising : AllPairs (λ (a b : ℕ). a < b) xs
  pub few : sum_by (λ x. sum_by (components_of plan) (option_to_list (slice_get plan.exchanges x))) xs ≤ 20
  pub count : length xs ≤ length plan.exchanges

module _ (plan : PlanParts) (valid : IsValidPlan plan) where
  -- an exchange that carries data of a scheme is the scheme's
  carrier : (s : ℕ) (items : List ℕ) (x : ℕ) → Contains (carriers plan s items) x → IsExchangeOf plan s x
  carrier s items x inside =
      let test = (filter_in _ (numbers plan.exchanges) x inside).1 in
      let e = passes_at plan.exchanges x _ test in
      record { exchange = e.0; there = e.1; own = eqb-true e.0.scheme s (and_parts (nat_eq e.0.scheme s) _ e.2).0 }

  few_carriers : (s : ℕ) (items : List ℕ) → length (carriers plan s items) ≤ length plan.exchanges
  few_carriers s items = omega (arith, fewer (λ x. passes plan.exchanges x (λ e. nat_eq e.scheme s && is_among e.data_id items)) (numbers plan.exchanges), length-range_with_len 0 (length plan.exchanges))

  rises_by : (s : ℕ) (items : List ℕ) → AllPairs (λ (a b : ℕ). a < b) (carriers plan s items)
  rises_by s items = AllPairs-filter (λ (a b : ℕ). a < b) _ (numbers plan.exchanges) (range_rises 0 (length plan.exchanges))

  over_by : (s : ℕ) (xs : List ℕ) → are_accelerated plan s xs ≡ true → IsOver plan s xs
  over_by s xs is =
      let sum = and_parts (nat_le 1 (length xs) && pointwise nat_eq xs (filter (λ x. passes plan.exchanges x (λ e. is_iterated e.kind)) (carriers plan s (data_carried plan xs))))
      (nat_le (sum_by (λ x. sum_by (components_of plan) (option_to_list (slice_get plan.exchanges x))) xs) 20) is in
      let two = and_parts (nat_le 1 (length xs)) (pointwise nat_eq xs (filter (λ x. passes plan.exchanges x (λ e. is_iterated e.kind)) (carriers plan s (data_carried plan xs)))) sum.0 in
      let same = same_numbers xs (filter (λ x. passes plan.exchanges x (λ e. is_iterated e.kind)) (carriers plan s (data_carried plan xs))) two.1 in
      record {
        own = λ x inside.
            carrier s (data_carried plan xs) x
            (filter_in (λ y. passes plan.exchanges y (λ e. is_iterated e.kind)) (carriers plan s (data_carried plan xs)) x
            (subst (λ (ys : List ℕ). Contains ys x) same inside)).0;
        rising = subst (λ (ys : List ℕ). AllPairs (λ (a b : ℕ). a < b) ys) (sym same)
            (AllPairs-filter (λ (a b : ℕ). a < b) (λ x. passes plan.exchanges x (λ e. is_iterated e.kind)) (carriers plan s (data_carried plan xs)) (rises_by s (data_carried plan xs)));
        few = leb-true (sum_by (λ x. sum_by (components_of plan) (option_to_list (slice_get plan.exchanges x))) xs) 20 sum.1;
        count = omega (
          arith,
          ap (λ (ys : List ℕ). length ys) same,
          fewer (λ x. passes plan.exchanges x (λ e. is_iterated e.kind)) (carriers plan s (data_carried plan xs)),
          few_carriers s (data_carried plan xs),
        );
      }

  none_over : (s : ℕ) → IsOver plan s []
  none_over s = record { own = λ x inside. absurd (omega (arith, inside.1)); rising = λ i j d less inside. absurd (omega (arith, inside)); few = omega arith; count = omega arith }

  over_of : (s : ℕ) (scheme : Scheme) (accel : Accel) → is_acceleration plan s scheme accel ≡ true → IsOver plan s (over accel)
  over_of s scheme NoAccel is = none_over s
  over_of s scheme (Constant factor xs) is = over_by s xs (and_parts (is_implicit scheme.kind && is_part_of_one factor) (are_accelerated plan s xs) is).1
  over_of s scheme (Aitken first xs) is = over_by s xs (and_parts (is_implicit scheme.kind && is_part_of_one first) (are_accelerated plan s xs) is).1

  -- there are few components, and degrees are 0 or 1
  pub few_components : (e : Exchange) → components_of plan e ≤ 3
  few_components e = of (slice_get plan.data_list e.data_id) (slice_get plan.meshes e.mesh) refl
    where
      of : (od : Option DataPlan) (om : Option MeshPlan) → slice_get plan.meshes e.mesh ≡ om
          → option_map_or (λ n. n) (option_and_then (λ d. option_map (λ m. components d m) om) od) 0 ≤ 3
      of None om is = omega arith
      of (Some d) None is = omega arith
      of (Some d) (Some m) is =
          components_by d m (dimensions_by m.dimensions (each_at (λ _ mesh. nat_eq mesh.dimensions 2 || nat_eq mesh.dimensions 3) plan.meshes valid.meshes.dimensions e.mesh m is))

  pub small_degree : (x : ℕ) → degree_in plan x ≤ 1
  small_degree x = of (slice_get plan.exchanges x)
    where
      degree : (d : ℕ) (o : Option DataPlan) → slice_get plan.data_list d ≡ o → option_map_or (λ item. item.degree) o 0 ≤ 1
      degree d None is = omega arith
      degree d (Some item) is = leb-true item.degree 1 (each_at (λ _ one. nat_le one.degree 1) plan.data_list valid.meshes.degrees d item is)

      of : (o : Option Exchange) → option_map_or (λ e. option_map_or (λ d. d.degree) (slice_get plan.data_list e.data_id) 0) o 0 ≤ 1
      of None = omega arith
      of (Some e) = degree e.data_id (slice_get plan.data_list e.data_id) refl

  module _ (s : ℕ) (scheme : Scheme) (at : slice_get plan.schemes s ≡ Some scheme) where
    pub few_measures : length scheme.measures ≤ 16
    few_measures = few_by (is_implicit scheme.kind) (length scheme.measures) (each_at (λ _ z. has_measures z) plan.schemes valid.schemes.measures s scheme at)

    pub is_over : IsOver plan s (over scheme.accel)
    is_over = over_of s scheme scheme.accel (each_at (λ t z. is_acceleration plan t z z.accel) plan.schemes valid.schemes.accelerations s scheme at)

    -- what a measure looks at is an exchange of the scheme
    pub measured_own : (i : ℕ) (m : Measure) → slice_get scheme.measures i ≡ Some m → IsExchangeOf plan s m.exchange
    measured_own i m is =
        let all = each_at (λ t z. list_all (looks_at_the_first plan t) z.measures) plan.schemes valid.schemes.measured_first s scheme at in
        let one = AllPass-from_list_all (looks_at_the_first plan s) scheme.measures all i m (slice_get_within scheme.measures i m is) in
        let looks = subst (λ (n : Measure). looks_at_the_first plan s n ≡ true) (get_or_from_slice_get scheme.measures i m m is) one in
        let e = passes_at plan.exchanges m.exchange (λ e. passes (carriers plan s (e.data_id ∷ [])) 0 (nat_eq m.exchange)) looks in
        let c = passes_at (carriers plan s (e.0.data_id ∷ [])) 0 (nat_eq m.exchange) e.2 in
        let same : c.0 ≡ m.exchange = sym (eqb-true m.exchange c.0 c.2) in
        carrier s (e.0.data_id ∷ []) m.exchange (subst (λ (n : ℕ). Contains (carriers plan s (e.0.data_id ∷ [])) n) same (found_in (carriers plan s (e.0.data_id ∷ [])) 0 c.0 c.1))

    -- and so is each accelerated one
    pub own_at : (i : ℕ) → i < length (over scheme.accel) → IsExchangeOf plan s (get_or (over scheme.accel) i 0)
    own_at i inside = is_over.own (get_or (over scheme.accel) i 0) (found_in (over scheme.accel) i (get_or (over scheme.accel) i 0) (slice_get-get_or (over scheme.accel) i 0 inside))
