-- Who has been given what it needs for a window, and has completed it, knows whether there is a next one.
use Rattle.std.proofs.Common.{◌≡◌, ℕ, zero, suc, ◌+◌, ◌<◌, ◌≤◌, inl, inr, true, false, ◌&&◌, nat_eq, nat_lt, nat_le, List, [], ◌∷◌, ◌++◌, length, slice_get, Option, Some, None, IsSome, refl, ap, sym, subst, ◌∙◌, arith, Contains, eq-eqb}
use Rattle.std.specs.Prelude.{option_map, option_to_list}
use Rattle.std.specs.Option.{option_map_or}
use Rattle.std.proofs.lemmas.Bool.{leb-true, cases_lt, cases_eq, eqb-true, false≢true}
use Rattle.std.proofs.lemmas.Option.{none-some, same_Some}
use Rattle.std.proofs.lemmas.List.Elements.{Contains-get_or}
use Rattle.plan_order.specs.NodeOrder.{first_member}
use Rattle.plan_order.proofs.Loops.{head_in, in_cons}
use Rattle.plan_order.proofs.Orders.{none_in_nil}
use Rattle.cpl_plan.specs.Needs.{is_second, asked, needs}
use Rattle.cpl_plan.specs.PlanWords.{numbers, is_member, schemes_of, is_among}
use Rattle.cpl_plan.specs.PlanTests.{has_members}
use Rattle.cpl_plan.specs.ValidPlan.{IsValidPlan}
use Rattle.cpl_plan.specs.Windows.{start_by, is_window}
use Rattle.cpl_plan.specs.declared.parts.PlanParts.{PlanParts}
use Rattle.cpl_plan.specs.declared.parts.Scheme.{Scheme}
use Rattle.cpl_plan.specs.declared.parts.SchemeKind.{SchemeKind}
use Rattle.cpl_plan.specs.declared.parts.SchemeKind.TheVariants.{SerialExplicit}
use Rattle.cpl_plan.specs.declared.parts.WindowMethod.{WindowMethod}
use Rattle.cpl_plan.specs.declared.parts.WindowMethod.TheVariants.{Fixed, FirstParticipant}
use Rattle.cpl_plan.specs.declared.words.Need.{Need}
use Rattle.cpl_plan.specs.declared.words.Item.{Item}
use Rattle.cpl_plan.specs.declared.words.Item.TheVariants.{Completed}
use Rattle.cpl_plan.proofs.Readings.{each_at, passes_at, among_in, filter_in, there}
use Rattle.cpl_plan.proofs.FixedWindows.{no_start}
use Rattle.cpl_plan.proofs.FirstStep.{one_scheme}
use Rattle.coupled_loop.specs.Given.{Gift, Look}
use Rattle.coupled_loop.specs.Settled.{Extends, IsInOrder}
use Rattle.coupled_loop.specs.PlanFrames.{window_maker, ends_made}
use Rattle.core_laws.proofs.PlanNeeds.{asks_of}

-- with windows of one size no end is looked at
fixed_start : (size : ℕ) (ends others : List ℕ) (w : ℕ) → start_by Fixed size ends w ≡ start_by Fixed size others w
fixed_start size ends others zero = no_start Fixed size ends ∙ sym (no_start Fixed size others)
fixed_start size ends others (suc w) = refl

pub fixed_told : (plan : PlanParts) (ends others : List ℕ) (w : ℕ) → plan.method ≡ Fixed → is_window plan ends w ≡ is_window plan others w
fixed_told plan ends others w fixed =
    ap (λ o. nat_le w plan.most_windows && option_map_or (λ start. nat_lt start plan.end_time) o false)
    (ap (λ m. start_by m plan.window ends w) fixed ∙ fixed_start plan.window ends others w ∙ sym (ap (λ m. start_by m plan.window others w) fixed))

module _ {Post : Type 0} where
  -- who has completed a window has completed those before it
  completed_before : (f : Look Post) (part : ℕ) → IsInOrder f → (w : ℕ) → IsSome (f part (Completed w)) → (v : ℕ) → v ≤ w → IsSome (f part (Completed v))
  completed_before f part order zero is v within =
      let same : 0 ≡ v = omega (arith, within) in subst (λ (n : ℕ). IsSome (f part (Completed n))) same is
  completed_before f part order (suc w) is v within =
      elim (cases_lt v (suc w)) [
        | inl below ↦ completed_before f part order w (order.windows part w is) v (omega (arith, below))
        | inr past ↦
            let same : suc w ≡ v = omega (arith, past, within) in subst (λ (n : ℕ). IsSome (f part (Completed n))) same is
      ]

  -- what is given stays as it is
  given_still : (f g : Look Post) (part : ℕ) (item : Item) → Extends f g → IsSome (f part item) → f part item ≡ g part item
  given_still f g part item extends is = by (f part item) refl is
    where
      by : (o : Option (Gift Post)) → f part item ≡ o → IsSome o → f part item ≡ g part item
      by None at is = absurd (false≢true is)
      by (Some gift) at is = at ∙ sym (extends part item gift at)

  same_ends : (newest : Post → ℕ) (f g : Look Post) (maker w : ℕ) → ((v : ℕ) → v < w → f maker (Completed (suc v)) ≡ g maker (Completed (suc v)))
      → ends_made newest f maker w ≡ ends_made newest g maker w
  same_ends newest f g maker zero same = refl
  same_ends newest f g maker (suc w) same =
      ap (λ ends. ends ++ option_to_list (option_map (λ gift. newest gift.post) (f maker (Completed (suc w)))))
      (same_ends newest f g maker w (λ v below. same v (omega (arith, below))))
      ∙ ap (λ o. ends_made newest g maker w ++ option_to_list (option_map (λ gift. newest gift.post) o)) (same w (omega arith))

  -- the ends of the windows that a participant has completed stay as they are
  pub ends_still : (newest : Post → ℕ) (f g : Look Post) (maker w : ℕ) → Extends f g → IsInOrder f → IsSome (f maker (Completed w))
      → (n : ℕ) → n ≤ w → ends_made newest f maker n ≡ ends_made newest g maker n
  ends_still newest f g maker w extends order is n within =
      same_ends newest f g maker n
      (λ v below. given_still f g maker (Completed (suc v)) extends (completed_before f maker order w is (suc v) (omega (arith, below, within))))

only_item : {X : Type 0} (x : X) (k : ℕ) (y : X) → slice_get (x ∷ []) k ≡ Some y → x ≡ y
only_item x zero y is = same_Some x y is
only_item x (suc k) y is = absurd (none-some y is)

two_numbers : (ns : List ℕ) → length ns ≡ 2 → (a : ℕ) × (b : ℕ) × (ns ≡ a ∷ b ∷ [])
two_numbers [] two = absurd (omega (arith, two))
two_numbers (a ∷ []) two = absurd (omega (arith, two))
two_numbers (a ∷ b ∷ []) two = (a, b, refl)
two_numbers (a ∷ b ∷ c ∷ more) two = absurd (omega (arith, two))

serial_two : (kind : SchemeKind) (n : ℕ) → kind ≡ SerialExplicit → has_members kind n ≡ true → n ≡ 2
serial_two kind n serial is = eqb-true n 2 (sym (ap (λ kd. has_members kd n) serial) ∙ is)

module _ (plan : PlanParts) (valid : IsValidPlan plan) where
  -- each participant is in a scheme
  in_some_scheme : (part : ℕ) → part < length plan.parts → (s : ℕ) × (scheme : Scheme) × (slice_get plan.schemes s ≡ Some scheme) × Contains scheme.members part
  in_some_scheme part below =
      let at = there plan.parts part below in
      let some = leb-true 1 (length (schemes_of plan part)) (each_at (λ p _. nat_le 1 (length (schemes_of plan p))) plan.parts valid.participants.in_a_scheme part at.0 at.1) in
      let first = Contains-get_or (schemes_of plan part) 0 0 (omega (arith, some)) in
      let member = (filter_in (λ s. is_member plan s part) (numbers plan.schemes) _ first).1 in
      let scheme = passes_at plan.schemes _ (λ s. is_among part s.members) member in
      (_, scheme.0, scheme.1, among_in part scheme.0.members scheme.2)

  module _ (method : plan.method ≡ FirstParticipant) where
    -- the one scheme, and its first and second
    record HasTwo : Type 0 where
      scheme : Scheme
      first : ℕ
      second : ℕ
      stands : slice_get plan.schemes 0 ≡ Some scheme
      kind : scheme.kind ≡ SerialExplicit
      members : scheme.members ≡ first ∷ second ∷ []
      only : (part : ℕ) → part < length plan.parts → Contains scheme.members part

    has_two : HasTwo
    has_two =
        let one = one_scheme plan valid method in
        let stands : slice_get plan.schemes 0 ≡ Some one.0 = ap (λ ss. slice_get ss 0) one.1 in
        let counted = each_at (λ _ z. has_members z.kind (length z.members)) plan.schemes valid.schemes.members_counted 0 one.0 stands in
        let two = two_numbers one.0.members (serial_two one.0.kind (length one.0.members) one.2 counted) in
        record {
          scheme = one.0;
          first = two.0;
          second = two.1;
          stands = stands;
          kind = one.2;
          members = two.2;
          only = λ part below.
              let some = in_some_scheme part below in
              let same : one.0 ≡ some.1 = only_item one.0 some.0 some.1 (sym (ap (λ ss. slice_get ss some.0) one.1) ∙ some.2) in
              subst (λ (s : Scheme). Contains s.members part) (sym same) some.3;
        }

    maker_is : (two : HasTwo) → window_maker plan ≡ two.first
    maker_is two = ap (λ o. first_member (option_map_or (λ s. s.members) o [])) two.stands ∙ ap first_member two.members

    -- whose needs are given and who has completed a window, of that the maker has completed it
    maker_completed : {Post : Type 0} (f : Look Post) (two : HasTwo) (part w k : ℕ) → part < length plan.parts
        → ((need : Need) → Contains (needs plan part w k) need → IsSome (f need.owner need.item)) → IsSome (f part (Completed w))
        → IsSome (f two.first (Completed w))
    maker_completed {Post} f two part w k below given is =
        elim (cases_eq two.first part) [
          | inl same ↦ subst (λ (p : ℕ). IsSome (f p (Completed w))) (sym same) is
          | inr apart ↦ needed apart (subst (λ (ns : List ℕ). Contains ns part) two.members (two.only part below))
        ]
      where
        needed : ¬ (two.first ≡ part) → Contains (two.first ∷ two.second ∷ []) part → IsSome (f two.first (Completed w))
        needed apart inside =
            let second : two.second ≡ part =
            elim (in_cons two.first (two.second ∷ []) part inside) [
              | inl same ↦ absurd (apart same)
              | inr rest ↦ elim (in_cons two.second [] part rest) [ inl same ↦ same | inr none ↦ absurd (none_in_nil part none) ]
            ] in
            let is_last : is_second two.scheme part ≡ true =
            ap (λ ns. option_map_or (λ m. nat_eq m part) (slice_get ns 1) false) two.members ∙ eq-eqb two.second part second in
            let item : asked two.scheme.kind (is_second two.scheme part) w k ≡ Completed w =
            ap (λ kd. asked kd (is_second two.scheme part) w k) two.kind ∙ ap (λ b. asked SerialExplicit b w k) is_last in
            let first_in : Contains two.scheme.members two.first =
            subst (λ (ns : List ℕ). Contains ns two.first) (sym two.members) (head_in two.first (two.second ∷ [])) in
            subst (λ (i : Item). IsSome (f two.first i)) item
            (given _ (asks_of plan valid part w k 0 two.scheme two.first two.stands (two.only part below) first_in apart))

  pub next_is_told : {Post : Type 0} (newest : Post → ℕ) (f g : Look Post) (part w k : ℕ) → part < length plan.parts → Extends f g → IsInOrder f
      → ((need : Need) → Contains (needs plan part w k) need → IsSome (f need.owner need.item)) → IsSome (f part (Completed w)) → (n : ℕ) → n ≤ w
      → is_window plan (ends_made newest f (window_maker plan) n) (w + 1) ≡ is_window plan (ends_made newest g (window_maker plan) n) (w + 1)
  next_is_told {Post} newest f g part w k below extends order given is n within = by plan.method refl
    where
      by : (m : WindowMethod) → plan.method ≡ m
          → is_window plan (ends_made newest f (window_maker plan) n) (w + 1) ≡ is_window plan (ends_made newest g (window_maker plan) n) (w + 1)
      by Fixed fixed = fixed_told plan (ends_made newest f (window_maker plan) n) (ends_made newest g (window_maker plan) n) (w + 1) fixed
      by FirstParticipant method =
          let two = has_two method in
          let made = maker_completed method f two part w k below given is in
          let maker : IsSome (f (window_maker plan) (Completed w)) =
          subst (λ (p : ℕ). IsSome (f p (Completed w))) (sym (maker_is method two)) made in
          ap (λ ends. is_window plan ends (w + 1)) (ends_still newest f g (window_maker plan) w extends order maker n within)
