-- What one participant has given is in order, and stays so with one gift more.
use Rattle.std.proofs.Common.{◌≡◌, ℕ, suc, ◌-◌, ◌≤◌, ◌⊎◌, inl, inr, List, [], ◌∷◌, ◌++◌, IsSome, is_some, ap, subst}
use Rattle.cpl_plan.specs.declared.words.Item.{Item}
use Rattle.cpl_plan.specs.declared.words.Item.TheVariants.{Completed, Posted}
use Rattle.coupled_loop.specs.Given.{Gift, found}
use Rattle.core_laws.proofs.Looks.{is_found_stays, later_found, found_cases, found_one, found_itself}

module _ {Post : Type 0} where
  pub record IsGivenInOrder (given : List (Gift Post)) : Type 0 where
    pub windows : (w : ℕ) → IsSome (found given (Completed (suc w))) → IsSome (found given (Completed w))
    pub turns : (w k : ℕ) → IsSome (found given (Posted w k)) → (1 ≤ w) × (1 ≤ k) × IsSome (found given (Completed (w - 1)))
    pub iterations : (w k : ℕ) → IsSome (found given (Posted w (suc (suc k)))) → IsSome (found given (Posted w (suc k)))

  pub none_in_order : IsGivenInOrder []
  none_in_order = record {
    windows = λ w is. cc;
    turns = λ w k is. (cc, cc, cc);
    iterations = λ w k is. cc;
  }

  -- in a list with one gift more something is found as before, or it is the item of that gift
  pub found_before_or : (given : List (Gift Post)) (gift : Gift Post) (item : Item) → IsSome (found (given ++ gift ∷ []) item) → IsSome (found given item) ⊎ (gift.item ≡ item)
  found_before_or given gift item is = elim (found_cases given (gift ∷ []) item is) [
    | inl before ↦ inl before
    | inr new ↦ inr (found_one gift item new)
  ]

  -- the item of the new gift is found
  pub found_last : (given : List (Gift Post)) (gift : Gift Post) (item : Item) → gift.item ≡ item → IsSome (found (given ++ gift ∷ []) item)
  found_last given gift item is = later_found given (gift ∷ []) item (subst (λ (one : Item). IsSome (found (gift ∷ []) one)) is (ap is_some (found_itself gift)))

  -- a window more
  pub completed_in_order : (given : List (Gift Post)) (gift : Gift Post) (w : ℕ) → IsGivenInOrder given → gift.item ≡ Completed w
      → ((v : ℕ) → w ≡ suc v → IsSome (found given (Completed v))) → IsGivenInOrder (given ++ gift ∷ [])
  completed_in_order given gift w order is before = record {
    windows = λ v now. elim (found_before_or given gift (Completed (suc v)) now) [
      | inl old ↦ is_found_stays given (gift ∷ []) (Completed v) (order.windows v old)
      | inr new ↦ is_found_stays given (gift ∷ []) (Completed v) (let e : w ≡ suc v = cc in before v e)
    ];
    turns = λ v j now. elim (found_before_or given gift (Posted v j) now) [
      | inl old ↦ let o = order.turns v j old in (o.0, o.1, is_found_stays given (gift ∷ []) (Completed (v - 1)) o.2)
      | inr new ↦ cc
    ];
    iterations = λ v j now. elim (found_before_or given gift (Posted v (suc (suc j))) now) [
      | inl old ↦ is_found_stays given (gift ∷ []) (Posted v (suc j)) (order.iterations v j old)
      | inr new ↦ cc
    ];
  }

  -- a turn more
  pub posted_in_order : (given : List (Gift Post)) (gift : Gift Post) (w k : ℕ) → IsGivenInOrder given → gift.item ≡ Posted w k
      → 1 ≤ w → 1 ≤ k → IsSome (found given (Completed (w - 1))) → ((j : ℕ) → k ≡ suc (suc j) → IsSome (found given (Posted w (suc j))))
      → IsGivenInOrder (given ++ gift ∷ [])
  posted_in_order given gift w k order is window iteration completed before = record {
    windows = λ v now. elim (found_before_or given gift (Completed (suc v)) now) [
      | inl old ↦ is_found_stays given (gift ∷ []) (Completed v) (order.windows v old)
      | inr new ↦ cc
    ];
    turns = λ v j now. elim (found_before_or given gift (Posted v j) now) [
      | inl old ↦ let o = order.turns v j old in (o.0, o.1, is_found_stays given (gift ∷ []) (Completed (v - 1)) o.2)
      | inr new ↦ let same_window : w ≡ v = cc in let same_iteration : k ≡ j = cc in (
        subst (λ (u : ℕ). 1 ≤ u) same_window window,
        subst (λ (u : ℕ). 1 ≤ u) same_iteration iteration,
        subst (λ (u : ℕ). IsSome (found (given ++ gift ∷ []) (Completed (u - 1)))) same_window (is_found_stays given (gift ∷ []) (Completed (w - 1)) completed),
      )
    ];
    iterations = λ v j now. elim (found_before_or given gift (Posted v (suc (suc j))) now) [
      | inl old ↦ is_found_stays given (gift ∷ []) (Posted v (suc j)) (order.iterations v j old)
      | inr new ↦ let same_window : w ≡ v = cc in let same_iteration : k ≡ suc (suc j) = cc in
          is_found_stays given (gift ∷ []) (Posted v (suc j)) (subst (λ (u : ℕ). IsSome (found given (Posted u (suc j)))) same_window (before j same_iteration))
    ];
  }
