-- The judgement of an iteration looks only at what its members have posted, and the last one is not repeated.
use Rattle.std.proofs.Common.{◌≡◌, ℕ, suc, ◌-◌, ◌≤◌, Bool, true, false, ◌==◌, ◌&&◌, if◌then◌else◌, nat_eq, nat_le, List, [], ◌∷◌, map, slice_get, Option, Some, None, IsSome, IsTrue, refl, ap, sym, subst, ◌∙◌, arith, Contains, eq-eqb}
use Rattle.std.specs.Prelude.{ℤ}
use Rattle.std.specs.List.{list_all}
use Rattle.std.specs.Option.{option_map_or}
use Rattle.std.proofs.lemmas.Bool.{and_parts, eqb-true, eqb-false, false≢true}
use Rattle.std.proofs.lemmas.List.Elements.{All-contains}
use Rattle.std.proofs.lemmas.List.Sums.{AllPass-from_list_all}
use Rattle.plan_order.specs.declared.node.Node.TheVariants.{Group}
use Rattle.plan_order.specs.NodeOrder.{first_member}
use Rattle.plan_order.proofs.Orders.{none_in_nil}
use Rattle.cpl_plan.specs.PlanWords.{numbers, passes, is_among}
use Rattle.cpl_plan.specs.PlanTests.{carriers, looks_at_the_first}
use Rattle.cpl_plan.specs.PlanNodes.{node_members, members_if_implicit}
use Rattle.cpl_plan.specs.ValidPlan.{IsValidPlan}
use Rattle.cpl_plan.specs.declared.parts.PlanParts.{PlanParts}
use Rattle.cpl_plan.specs.declared.parts.Exchange.{Exchange}
use Rattle.cpl_plan.specs.declared.parts.Scheme.{Scheme}
use Rattle.cpl_plan.specs.declared.parts.Measure.{Measure}
use Rattle.cpl_plan.specs.declared.parts.Kind.{Kind}
use Rattle.cpl_plan.specs.declared.parts.Kind.TheVariants.{Lag, Fresh, FreshIter, Iterated}
use Rattle.cpl_plan.specs.declared.words.Fault.{Fault}
use Rattle.cpl_plan.specs.declared.words.Verdict.{Verdict}
use Rattle.cpl_plan.specs.declared.words.Verdict.TheVariants.{Again, Converged, AtLimit, NotConverged}
use Rattle.cpl_plan.specs.declared.words.Item.TheVariants.{Completed, Posted}
use Rattle.cpl_plan.proofs.Readings.{each_at, passes_at, filter_in}
use Rattle.convergence.specs.declared.measured.Measured.{Measured}
use Rattle.convergence.specs.Change.{change_of}
use Rattle.convergence.specs.Verdict.{verdict, are_met, last_verdict, first_failing}
use Rattle.acceleration.specs.Outside.{Location}
use Rattle.coupled_loop.specs.Given.{Look}
use Rattle.coupled_loop.specs.Endings.{Judgement, again, converged, at_limit, refused}
use Rattle.coupled_loop.specs.PlanFrames.{is_told, members_of, iterations_of}
use Rattle.coupled_loop.specs.Settled.{Extends, IsInOrder, HavePostedBelow}
use Rattle.core_laws.proofs.PlanPlaces.{node_filled}
use Rattle.wave_coupling.specs.Root.{norm}
use Rattle.wave_coupling.specs.Posts.{Post, newest_time, newest_values}
use Rattle.wave_coupling.specs.InputWave.{Sent, Relaxed, InputWave, completed, posted, relaxed_after, input_by, no_input}
use Rattle.wave_coupling.specs.Judged.{old_values, change_in, size_in, measured_in, verdict_in, judgement_of, judged_by}
use Rattle.wave_coupling.specs.Coupling.{wave_frame, start_of, judge_of}
use Rattle.wave_laws.proofs.Stills.{map_same, slice_in}
use Rattle.wave_laws.proofs.Senders.{IsExchange, is_exchange, sender_in}
use Rattle.wave_laws.proofs.Relaxing.{completed_same, posted_same, relaxed_same}
use Rattle.wave_laws.proofs.InputsStay.{over_one, starts_same, input_same}

judgement_alike : (plan : PlanParts) (f g : Look Post) (number w k : ℕ) (scheme : Scheme) (outside : Option Location) (v : Verdict)
    → judgement_of plan f number w k scheme outside v ≡ judgement_of plan g number w k scheme outside v
judgement_alike plan f g number w k scheme None Again = refl
judgement_alike plan f g number w k scheme (Some location) Again = refl
judgement_alike plan f g number w k scheme outside Converged = refl
judgement_alike plan f g number w k scheme outside AtLimit = refl
judgement_alike plan f g number w k scheme outside (NotConverged measure) = refl

-- a verdict, or a judgement, repeats the window
repeats : Verdict → Bool
repeats Again = true
repeats Converged = false
repeats AtLimit = false
repeats (NotConverged measure) = false

is_again : Judgement Fault → Bool
is_again again = true
is_again converged = false
is_again at_limit = false
is_again (refused fault) = false

last_ends : (all : List Measured) (k min : ℕ) → repeats (verdict all k min k) ≡ false
unfolding repeats
last_ends all k min = elim (nat_le min k && are_met all) as (λ b. repeats (if b then Converged else if nat_eq k k then last_verdict (first_failing all) else Again) ≡ false) [
  | true ↦ refl
  | false ↦ ap (λ (b : Bool). repeats (if b then last_verdict (first_failing all) else Again)) (eq-eqb k k refl) ∙ last_of (first_failing all)
]
  where
    last_of : (o : Option ℕ) → repeats (last_verdict o) ≡ false
    last_of None = refl
    last_of (Some place) = refl

judged_last : (plan : PlanParts) (f : Look Post) (number w k : ℕ) (scheme : Scheme) (outside : Option Location) (v : Verdict)
    → repeats v ≡ false → is_again (judgement_of plan f number w k scheme outside v) ≡ false
unfolding repeats is_again
judged_last plan f number w k scheme outside Again ends = absurd (false≢true (sym ends))
judged_last plan f number w k scheme outside Converged ends = refl
judged_last plan f number w k scheme outside AtLimit ends = refl
judged_last plan f number w k scheme outside (NotConverged measure) ends = refl

module _ (plan : PlanParts) (valid : IsValidPlan plan) where
  -- a measured exchange is one of its scheme
  measured_scheme : (number : ℕ) (scheme : Scheme) (measure : Measure) → slice_get plan.schemes number ≡ Some scheme → Contains scheme.measures measure
      → (e : Exchange) × (slice_get plan.exchanges measure.exchange ≡ Some e) × (e.scheme ≡ number)
  measured_scheme number scheme measure stands inside =
      let all = each_at (λ s z. list_all (looks_at_the_first plan s) z.measures) plan.schemes valid.schemes.measured_first number scheme stands in
      let one : looks_at_the_first plan number measure ≡ true =
      All-contains (λ m. looks_at_the_first plan number m ≡ true) scheme.measures measure (AllPass-from_list_all (looks_at_the_first plan number) scheme.measures all) inside in
      let at = passes_at plan.exchanges measure.exchange (λ e. passes (carriers plan number (e.data_id ∷ [])) 0 (nat_eq measure.exchange)) one in
      let first = passes_at (carriers plan number (at.0.data_id ∷ [])) 0 (nat_eq measure.exchange) at.2 in
      let same : measure.exchange ≡ first.0 = eqb-true measure.exchange first.0 first.2 in
      let carried = filter_in (λ y. passes plan.exchanges y (λ e. nat_eq e.scheme number && is_among e.data_id (at.0.data_id ∷ []))) (numbers plan.exchanges) first.0
      (slice_in (carriers plan number (at.0.data_id ∷ [])) 0 first.0 first.1) in
      let own = passes_at plan.exchanges first.0 (λ e. nat_eq e.scheme number && is_among e.data_id (at.0.data_id ∷ [])) carried.1 in
      (own.0, ap (slice_get plan.exchanges) same ∙ own.1, eqb-true own.0.scheme number (and_parts (nat_eq own.0.scheme number) (is_among own.0.data_id (at.0.data_id ∷ [])) own.2).0)

  -- a scheme whose node stands in the order is there
  pub group_there : (number : ℕ) → Contains plan.nodes (Group number) → (scheme : Scheme) × (slice_get plan.schemes number ≡ Some scheme)
  group_there number inside = of (slice_get plan.schemes number) (node_filled plan valid (Group number) inside)
    where
      of : (o : Option Scheme) → Contains (option_map_or members_if_implicit o []) (first_member (node_members plan (Group number))) → (scheme : Scheme) × (o ≡ Some scheme)
      of None inside = absurd (none_in_nil (first_member (node_members plan (Group number))) inside)
      of (Some scheme) inside = (scheme, refl)

  module _ (f g : Look Post) (extends : Extends f g) (order : IsInOrder f) (number : ℕ) (scheme : Scheme) (stands : slice_get plan.schemes number ≡ Some scheme) (w k : ℕ)
      (there : 1 ≤ w) (given : HavePostedBelow (wave_frame plan) f number w (suc k)) where
    -- the posts of a sender of the scheme, in an iteration up to this one, and what it has accepted before
    posts_of : (e : Exchange) → IsExchange plan e → e.scheme ≡ number → (j : ℕ) → 1 ≤ j → j ≤ k → IsSome (f e.from (Posted w j))
    posts_of e is own j low high = given e.from j (sender_in plan valid e number is own) low (omega (arith, high))

    done_of : (e : Exchange) → IsExchange plan e → e.scheme ≡ number → 1 ≤ k → IsSome (f e.from (Completed (w - 1)))
    done_of e is own first = (order.turns e.from w 1 (posts_of e is own 1 (omega arith) first)).2

    before_same : (e : Exchange) (x j : ℕ) → IsExchange plan e → e.scheme ≡ number → 1 ≤ j → j ≤ k
        → newest_values (if j == 1 then (completed plan f e x (w - 1)).wave else (posted plan f e x w (j - 1)).wave)
        ≡ newest_values (if j == 1 then (completed plan g e x (w - 1)).wave else (posted plan g e x w (j - 1)).wave)
    before_same e x j is own low high = by (j == 1) refl
      where
        by : (b : Bool) → (j == 1) ≡ b
            → newest_values (if b then (completed plan f e x (w - 1)).wave else (posted plan f e x w (j - 1)).wave)
            ≡ newest_values (if b then (completed plan g e x (w - 1)).wave else (posted plan g e x w (j - 1)).wave)
        by true one = ap (λ (s : Sent). newest_values s.wave) (completed_same plan f g extends e x (w - 1) (done_of e is own (omega (arith, low, high))))
        by false more =
            ap (λ (s : Sent). newest_values s.wave)
            (posted_same plan f g extends e x w (j - 1) (posts_of e is own (j - 1) (over_one j low (eqb-false j 1 more)) (omega (arith, high))))

    old_same : (kind : Kind) (e : Exchange) (x start j : ℕ) → e.kind ≡ kind → slice_get plan.exchanges x ≡ Some e → e.scheme ≡ number → 1 ≤ j → j ≤ k
        → old_values plan f kind e x w start j ≡ old_values plan g kind e x w start j
    old_same Lag e x start j kind at own low high = before_same e x j (is_exchange plan valid x e at) own low high
    old_same Fresh e x start j kind at own low high = before_same e x j (is_exchange plan valid x e at) own low high
    old_same FreshIter e x start j kind at own low high = before_same e x j (is_exchange plan valid x e at) own low high
    old_same Iterated e x start j kind at own low high =
        let is = is_exchange plan valid x e at in
        let group : HavePostedBelow (wave_frame plan) f e.scheme w j =
        λ member i inside least below. given member i (subst (λ (s : ℕ). Contains (members_of plan s) member) own inside) least (omega (arith, below, high)) in
        ap (λ (o : Option Exchange). newest_values (option_map_or (λ e. input_by plan f e.kind e x w start j) o no_input).wave) at
        ∙ ap (λ (kd : Kind). newest_values (input_by plan f kd e x w start j).wave) kind
        ∙ ap (λ (input : InputWave). newest_values input.wave)
        (input_same plan valid f g extends order Iterated e x w start j is there low (done_of e is own (omega (arith, low, high))) (λ same. group))
        ∙ sym (ap (λ (kd : Kind). newest_values (input_by plan g kd e x w start j).wave) kind)
        ∙ sym (ap (λ (o : Option Exchange). newest_values (option_map_or (λ e. input_by plan g e.kind e x w start j) o no_input).wave) at)

    change_same : (e : Exchange) (x start j : ℕ) → slice_get plan.exchanges x ≡ Some e → e.scheme ≡ number → 1 ≤ j → j ≤ k
        → change_in plan f x w start j (Some e) ≡ change_in plan g x w start j (Some e)
    change_same e x start j at own low high =
        ap (λ (s : Sent). norm (change_of (newest_values s.wave) (old_values plan f e.kind e x w start j)))
        (posted_same plan f g extends e x w j (posts_of e (is_exchange plan valid x e at) own j low high))
        ∙ ap (λ (old : List ℤ). norm (change_of (newest_values (posted plan g e x w j).wave) old)) (old_same e.kind e x start j refl at own low high)

    abbrev measured_as : Measure → (change size first : ℕ) → Measured
    measured_as measure change size first = record { measure = measure; change = change; size = size; first = first }

    measured_same : (start : ℕ) → 1 ≤ k → (measure : Measure) → Contains scheme.measures measure → measured_in plan f w start k measure ≡ measured_in plan g w start k measure
    measured_same start first measure inside =
        let at = measured_scheme number scheme measure stands inside in of at.0 at.1 at.2
      where
        of : (e : Exchange) → slice_get plan.exchanges measure.exchange ≡ Some e → e.scheme ≡ number → measured_in plan f w start k measure ≡ measured_in plan g w start k measure
        of e at own =
            let x : ℕ = measure.exchange in
            ap (λ (o : Option Exchange). measured_as measure (change_in plan f x w start k o) (size_in plan f x w k o) (change_in plan f x w start 1 o)) at
            ∙ ap (λ (n : ℕ). measured_as measure n (size_in plan f x w k (Some e)) (change_in plan f x w start 1 (Some e))) (change_same e x start k at own first (omega arith))
            ∙ ap (λ (s : Sent). measured_as measure (change_in plan g x w start k (Some e)) (norm (newest_values s.wave)) (change_in plan f x w start 1 (Some e)))
            (posted_same plan f g extends e x w k (posts_of e (is_exchange plan valid x e at) own k first (omega arith)))
            ∙ ap (λ (n : ℕ). measured_as measure (change_in plan g x w start k (Some e)) (size_in plan g x w k (Some e)) n) (change_same e x start 1 at own (omega arith) first)
            ∙ sym (ap (λ (o : Option Exchange). measured_as measure (change_in plan g x w start k o) (size_in plan g x w k o) (change_in plan g x w start 1 o)) at)

    verdict_same : (start : ℕ) → 1 ≤ k → verdict_in plan f scheme w start k ≡ verdict_in plan g scheme w start k
    verdict_same start first =
        ap (λ (all : List Measured). verdict all k scheme.min scheme.max)
        (map_same (measured_in plan f w start k) (measured_in plan g w start k) scheme.measures (λ measure inside. measured_same start first measure inside))

    judged_same : (start : ℕ) → 1 ≤ k → judged_by plan f number w start k (Some scheme) ≡ judged_by plan g number w start k (Some scheme)
    judged_same start first =
        ap (λ (r : Relaxed). judgement_of plan f number w k scheme r.outside (verdict_in plan f scheme w start k))
        (relaxed_same plan f g extends valid order number scheme stands w start k given)
        ∙ ap (λ (v : Verdict). judgement_of plan f number w k scheme (relaxed_after plan g scheme w start k).outside v) (verdict_same start first)
        ∙ judgement_alike plan f g number w k scheme (relaxed_after plan g scheme w start k).outside (verdict_in plan g scheme w start k)

    -- the judgement stays as it is
    pub judgement_same : 1 ≤ k → IsTrue (is_told plan newest_time f w) → judge_of plan f number w k ≡ judge_of plan g number w k
    judgement_same first told =
        ap (λ (o : Option Scheme). judged_by plan f number w (start_of plan f w) k o) stands
        ∙ judged_same (start_of plan f w) first
        ∙ ap (λ (start : ℕ). judged_by plan g number w start k (Some scheme)) (starts_same plan valid f g extends order w told)
        ∙ sym (ap (λ (o : Option Scheme). judged_by plan g number w (start_of plan g w) k o) stands)

  -- the last iteration is not repeated
  pub last_same : (f : Look Post) (number w : ℕ) → Contains plan.nodes (Group number) → ¬ (judge_of plan f number w (iterations_of plan number) ≡ again)
  unfolding is_again
  last_same f number w inside repeated =
      let at = group_there number inside in
      let most : iterations_of plan number ≡ at.0.max = ap (λ (o : Option Scheme). option_map_or (λ s. s.max) o 0) at.1 in
      let ends = judged_last plan f number w at.0.max at.0 (relaxed_after plan f at.0 w (start_of plan f w) at.0.max).outside (verdict_in plan f at.0 w (start_of plan f w) at.0.max)
      (last_ends (map (measured_in plan f w (start_of plan f w) at.0.max) at.0.measures) at.0.max at.0.min) in
      false≢true (sym ends ∙ ap is_again (sym (ap (λ (o : Option Scheme). judged_by plan f number w (start_of plan f w) at.0.max o) at.1)
      ∙ sym (ap (λ (k : ℕ). judge_of plan f number w k) most) ∙ repeated))

again_relaxed : (plan : PlanParts) (f : Look Post) (number w k : ℕ) (scheme : Scheme) (outside : Option Location) (v : Verdict)
    → judgement_of plan f number w k scheme outside v ≡ again → outside ≡ None
unfolding is_again
again_relaxed plan f number w k scheme None v is = refl
again_relaxed plan f number w k scheme (Some location) Again is = absurd (false≢true (ap is_again is))
again_relaxed plan f number w k scheme (Some location) Converged is = absurd (false≢true (ap is_again is))
again_relaxed plan f number w k scheme (Some location) AtLimit is = absurd (false≢true (ap is_again is))
again_relaxed plan f number w k scheme (Some location) (NotConverged measure) is = absurd (false≢true (ap is_again is))

-- what is repeated could be relaxed
pub repeated_relaxed : (plan : PlanParts) (f : Look Post) (number w k : ℕ) (scheme : Scheme) → slice_get plan.schemes number ≡ Some scheme → judge_of plan f number w k ≡ again
    → (relaxed_after plan f scheme w (start_of plan f w) k).outside ≡ None
repeated_relaxed plan f number w k scheme stands repeated =
    again_relaxed plan f number w k scheme (relaxed_after plan f scheme w (start_of plan f w) k).outside (verdict_in plan f scheme w (start_of plan f w) k)
    (sym (ap (λ (o : Option Scheme). judged_by plan f number w (start_of plan f w) k o) stands) ∙ repeated)
