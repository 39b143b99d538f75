-- What was given is told by where its giver stands.
use Rattle.std.proofs.Common.{◌≡◌, ℕ, zero, suc, ◌+◌, ◌-◌, ◌<◌, ◌≤◌, ◌⊎◌, inl, inr, Bool, true, false, nat_lt, List, [], Option, Some, None, IsSome, is_some, refl, sym, ap, subst, ◌∙◌, arith}
use Rattle.std.proofs.lemmas.Bool.{cases_lt, cases_order}
use Rattle.std.proofs.lemmas.Bool.Decides.{nat_tests}
use Rattle.cpl_plan.specs.declared.words.Item.{Item}
use Rattle.cpl_plan.specs.declared.words.Item.TheVariants.{Completed, Posted}
use Rattle.coupled_loop.specs.Given.{Gift, Look, has_given, found}
use Rattle.coupled_loop.specs.Endings.{Judgement, again}
use Rattle.coupled_loop.specs.Frames.{Frame}
use Rattle.coupled_loop.specs.CoreState.{Place, CoreState, look_in, turn_at}
use Rattle.coupled_loop.specs.Settled.{IsInOrder}
use Rattle.core_laws.proofs.Sound.{IsSound}
use Rattle.core_laws.proofs.Well.{HasPostedBefore, IsBefore, Stands}
use Rattle.core_laws.proofs.GoodMoves.{among_members}
use Rattle.core_sides.specs.KeptPlaces.{given_before, given_at}
use Rattle.core_sides.specs.SidesStand.{place_of}
use Rattle.core_sides.specs.declared.standing.Place.{Place as KeptPlace}
use Rattle.core_sides.specs.declared.standing.Place.TheVariants.{Sending, Collecting, Opening, Taking, Within, Judging}
use Rattle.core_sides.proofs.Aligned.{IsAccepting, IsJudgedBy, IsTold}

-- a test is true where what it tests holds, and false where it does not
yes_test : (b : Bool) → b ≡ true → (c : Bool) → c ≡ true → b ≡ c
yes_test b yes_b c yes_c = yes_b ∙ sym yes_c

no_test : (b : Bool) → ¬ (b ≡ true) → b ≡ false
no_test true none = absurd (none refl)
no_test false none = refl

lt_true : (v w : ℕ) → v < w → nat_lt v w ≡ true
lt_true v w less = grind (arith, nat_tests)

lt_false : (v w : ℕ) → w ≤ v → nat_lt v w ≡ false
lt_false v w past = grind (arith, nat_tests)

before_true : (w k v j : ℕ) → (v < w) ⊎ ((v ≡ w) × (j < k)) → given_before w k (Posted v j) ≡ true
before_true w k v j is = grind (arith, nat_tests, is)

before_false : (w k v j : ℕ) → (w < v) ⊎ ((v ≡ w) × (k ≤ j)) → given_before w k (Posted v j) ≡ false
before_false w k v j is = grind (arith, nat_tests, is)

module _ {Post Inputs Fault : Type 0} (frame : Frame Post Inputs Fault) (f : Look Post) (order : IsInOrder f) (part : ℕ) where
  pub completed_before : (w : ℕ) → IsSome (f part (Completed w)) → (v : ℕ) → v ≤ w → IsSome (f part (Completed v))
  completed_before zero is v most = let same : 0 ≡ v = omega (arith, most) in subst (λ (n : ℕ). IsSome (f part (Completed n))) same is
  completed_before (suc w) is v most = elim (cases_lt v (suc w)) [
    | inl below ↦ completed_before w (order.windows part w is) v (omega (arith, below))
    | inr past ↦ let same : suc w ≡ v = omega (arith, past, most) in subst (λ (n : ℕ). IsSome (f part (Completed n))) same is
  ]

  -- windows
  pub completed_told : (w k : ℕ) → IsBefore frame f part w k → (v : ℕ) → has_given f part (Completed v) ≡ nat_lt v w
  completed_told w k before v = elim (cases_lt v w) [
    | inl less ↦ yes_test (has_given f part (Completed v)) (completed_before (w - 1) before.completed v (omega (arith, less))) (nat_lt v w) (lt_true v w less)
    | inr past ↦ no_test (has_given f part (Completed v)) (λ some. let less : v < w = before.uncompleted v some in absurd (omega (arith, past, less))) ∙ sym (lt_false v w past)
  ]

  -- turns of the window in which it stands, and of later ones
  pub posted_told : (w k v j : ℕ) → ((j : ℕ) → 1 ≤ j → j < k → IsSome (f part (Posted w j))) → HasPostedBefore frame f part w k → w ≤ v → 1 ≤ j
      → has_given f part (Posted v j) ≡ given_before w k (Posted v j)
  posted_told w k v j below posted from iteration = elim (cases_order v w) [
    | inl same ↦ elim (cases_lt j k) [
      | inl less ↦ yes_test (has_given f part (Posted v j)) (subst (λ (u : ℕ). IsSome (f part (Posted u j))) (sym same) (below j iteration less))
          (given_before w k (Posted v j)) (before_true w k v j (inr (same, less)))
      | inr past ↦ no_test (has_given f part (Posted v j)) (λ some. elim (posted v j some) [
        | inl less ↦ absurd (omega (arith, less, from))
        | inr own ↦ absurd (omega (arith, own.1, past))
      ]) ∙ sym (before_false w k v j (inr (same, past)))
    ]
    | inr (inl less) ↦ absurd (omega (arith, less, from))
    | inr (inr more) ↦ no_test (has_given f part (Posted v j)) (λ some. elim (posted v j some) [
      | inl less ↦ absurd (omega (arith, less, from))
      | inr own ↦ absurd (omega (arith, own.0, more))
    ]) ∙ sym (before_false w k v j (inl more))
  ]

module _ {Mesh Post Inputs Fault : Type 0} (frame : Frame Post Inputs Fault) (sound : IsSound frame) (sides : CoreState Mesh Post Fault) (told : IsTold frame sides) where
  stands_at : (part : ℕ) (place : KeptPlace) → (sides part).place ≡ place_of place → Stands frame (look_in sides) part (place_of place) (sides part).given
  stands_at part place at = subst (λ (p : Place). Stands frame (look_in sides) part p (sides part).given) at (told.well.stands part)

  nothing_given : (part : ℕ) (item : Item) → (sides part).given ≡ [] → has_given (look_in sides) part item ≡ false
  nothing_given part item is = ap (λ (given : List (Gift Post)). is_some (found given item)) is

  -- a window that was completed
  pub completed_at : (part : ℕ) (place : KeptPlace) → (sides part).place ≡ place_of place → (v : ℕ)
      → has_given (look_in sides) part (Completed v) ≡ given_at place (Completed v)
  completed_at part Sending at v = nothing_given part (Completed v) (stands_at part Sending at)
  completed_at part Collecting at v = nothing_given part (Completed v) (stands_at part Collecting at)
  completed_at part Opening at v = nothing_given part (Completed v) (stands_at part Opening at)
  completed_at part (Taking w k) at v = completed_told frame (look_in sides) told.well.in_order part w k (stands_at part (Taking w k) at).0 v
  completed_at part (Within w k) at v = completed_told frame (look_in sides) told.well.in_order part w k (stands_at part (Within w k) at).0 v
  completed_at part (Judging scheme w k) at v = completed_told frame (look_in sides) told.well.in_order part w k (stands_at part (Judging scheme w k) at).1 v

  module _ (scheme one part v j : ℕ) (is_one : one < frame.parts) (is_part : part < frame.parts) (one_in : frame.group one ≡ Some scheme) (part_in : frame.group part ≡ Some scheme)
      (at_turn : turn_at (sides one).place ≡ (v, j)) (window : 1 ≤ v) (iteration : 1 ≤ j) where
    accepting_again : (judgement : Judgement Fault) → IsAccepting judgement → judgement ≡ again → ⊥
    accepting_again judgement accepting is = subst IsAccepting is accepting

    -- who has completed the window has posted the turn at which another member stands
    passed_by : (u : ℕ) → v ≡ suc u → (o : Option (Gift Post)) → found (sides part).given (Completed (suc u)) ≡ o → IsSome o → IsSome (look_in sides part (Posted v j))
    passed_by u is None e some = cc
    passed_by u is (Some gift) e some = elim (cases_lt gift.iteration j) [
      | inl less ↦ absurd (accepting_again (frame.judge (look_in sides) scheme v gift.iteration) here.so
          ((told.aligned.each one is_one).passed scheme v j gift.iteration one_in at_turn here.iteration less).so)
      | inr past ↦ here.posted part j (among_members frame sound part scheme is_part part_in) iteration (omega (arith, past))
    ] where
      here : IsJudgedBy frame (look_in sides) scheme v gift.iteration IsAccepting
      here = subst (λ (w : ℕ). IsJudgedBy frame (look_in sides) scheme w gift.iteration IsAccepting) (sym is)
          ((told.aligned.each part is_part).accepted scheme u gift part_in e)

    completed_posted : IsSome (look_in sides part (Completed v)) → IsSome (look_in sides part (Posted v j))
    completed_posted some = by v refl some window where
      by : (n : ℕ) → v ≡ n → IsSome (look_in sides part (Completed n)) → 1 ≤ n → IsSome (look_in sides part (Posted v j))
      by zero is has positive = absurd (omega (arith, positive))
      by (suc u) is has positive = passed_by u is (found (sides part).given (Completed (suc u))) refl has

    posted_from : (w k : ℕ) → IsBefore frame (look_in sides) part w k → ((i : ℕ) → 1 ≤ i → i < k → IsSome (look_in sides part (Posted w i)))
        → (n : ℕ) → ((i : ℕ) → 1 ≤ i → i < n → IsSome (look_in sides part (Posted w i))) → HasPostedBefore frame (look_in sides) part w n
        → has_given (look_in sides) part (Posted v j) ≡ given_before w n (Posted v j)
    posted_from w k before below n below_n posted = elim (cases_lt v w) [
      | inl less ↦ yes_test (has_given (look_in sides) part (Posted v j))
          (completed_posted (completed_before frame (look_in sides) told.well.in_order part (w - 1) before.completed v (omega (arith, less))))
          (given_before w n (Posted v j)) (before_true w n v j (inl less))
      | inr past ↦ posted_told frame (look_in sides) told.well.in_order part w n v j below_n posted past iteration
    ]

    own_below : (w k : ℕ) → IsBefore frame (look_in sides) part w k → (i : ℕ) → 1 ≤ i → i < k → IsSome (look_in sides part (Posted w i))
    own_below w k before i from less = before.group scheme part_in part i (among_members frame sound part scheme is_part part_in) from less

    -- a turn at which a member stands, of another member or of itself
    pub posted_at : (place : KeptPlace) → (sides part).place ≡ place_of place → has_given (look_in sides) part (Posted v j) ≡ given_at place (Posted v j)
    posted_at Sending at = nothing_given part (Posted v j) (stands_at part Sending at)
    posted_at Collecting at = nothing_given part (Posted v j) (stands_at part Collecting at)
    posted_at Opening at = nothing_given part (Posted v j) (stands_at part Opening at)
    posted_at (Taking w k) at =
        let stands = stands_at part (Taking w k) at in
        posted_from w k stands.0 (own_below w k stands.0) k (own_below w k stands.0) stands.1
    posted_at (Within w k) at =
        let stands = stands_at part (Within w k) at in
        posted_from w k stands.0 (own_below w k stands.0) k (own_below w k stands.0) stands.2
    posted_at (Judging own w k) at =
        let stands = stands_at part (Judging own w k) at in
        let next : suc k ≡ k + 1 = omega arith in
        subst (λ (n : ℕ). has_given (look_in sides) part (Posted v j) ≡ given_before w n (Posted v j)) next
        (posted_from w k stands.1 (own_below w k stands.1) (suc k)
        (λ i from less. elim (cases_lt i k) [
          | inl below ↦ own_below w k stands.1 i from below
          | inr past ↦ let same : k ≡ i = omega (arith, past, less) in subst (λ (n : ℕ). IsSome (look_in sides part (Posted w n))) same stands.3
        ]) stands.4)
