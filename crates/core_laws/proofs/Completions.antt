-- What one participant has given once it has posted a turn, and once it has completed a window.
use Rattle.std.proofs.Common.{◌≡◌, ℕ, suc, ◌-◌, ◌<◌, ◌≤◌, ◌⊎◌, inl, inr, List, [], ◌∷◌, ◌++◌, Option, Some, None, IsSome, option_map, option_to_list, refl, subst, arith}
use Rattle.cpl_plan.specs.declared.words.Item.TheVariants.{Completed, Posted}
use Rattle.coupled_loop.specs.Given.{Gift, found, gives, accepts, accepted_for}
use Rattle.core_laws.proofs.Looks.{is_found_stays}
use Rattle.core_laws.proofs.GiftOrders.{IsGivenInOrder, none_in_order, found_before_or, found_last, completed_in_order, posted_in_order}

module _ {Post : Type 0} where
  -- the turn (w, k) is posted, and nothing after it
  pub record HasTurn (given : List (Gift Post)) (w k : ℕ) : Type 0 where
    pub order : IsGivenInOrder given
    pub turn : IsSome (found given (Posted w k))
    pub posted : (v j : ℕ) → IsSome (found given (Posted v j)) → (v < w) ⊎ ((v ≡ w) × (j < suc k))
    pub completed : IsSome (found given (Completed (w - 1)))
    pub uncompleted : (v : ℕ) → IsSome (found given (Completed v)) → v < w

  -- window w is completed, and nothing after it given
  pub record HasWindow (given : List (Gift Post)) (w : ℕ) : Type 0 where
    pub order : IsGivenInOrder given
    pub completed : IsSome (found given (Completed w))
    pub uncompleted : (v : ℕ) → IsSome (found given (Completed v)) → v < suc w
    pub posted : (v j : ℕ) → IsSome (found given (Posted v j)) → v < suc w

  -- after the initial post
  pub opened : (post : Post) → HasWindow (gives (Completed 0) 0 post []) 0
  opened post = record {
    order = completed_in_order [] gift 0 none_in_order refl (λ v e. cc);
    completed = found_last [] gift (Completed 0) refl;
    uncompleted = λ v is. elim (found_before_or [] gift (Completed v) is) [
      | inl old ↦ cc
      | inr new ↦ let e : 0 ≡ v = cc in omega arith
    ];
    posted = λ v j is. elim (found_before_or [] gift (Posted v j) is) [
      | inl old ↦ cc
      | inr new ↦ cc
    ];
  } where
    gift : Gift Post
    gift = record { item = Completed 0; iteration = 0; post = post }

  -- after the post of a turn that comes after all that were posted
  pub turn_posted : (given : List (Gift Post)) (w k : ℕ) (post : Post) → IsGivenInOrder given → 1 ≤ w → 1 ≤ k
      → IsSome (found given (Completed (w - 1))) → ((v : ℕ) → IsSome (found given (Completed v)) → v < w)
      → ((v j : ℕ) → IsSome (found given (Posted v j)) → (v < w) ⊎ ((v ≡ w) × (j < k)))
      → ((j : ℕ) → k ≡ suc (suc j) → IsSome (found given (Posted w (suc j))))
      → HasTurn (gives (Posted w k) k post given) w k
  turn_posted given w k post order window iteration completed uncompleted posted before = record {
    order = posted_in_order given gift w k order refl window iteration completed before;
    turn = found_last given gift (Posted w k) refl;
    posted = λ v j is. elim (found_before_or given gift (Posted v j) is) [
      | inl old ↦ elim (posted v j old) [ inl less ↦ inl less | inr same ↦ inr (same.0, omega (arith, same.1)) ]
      | inr new ↦ let e : v ≡ w = cc in let ej : k ≡ j = cc in inr (e, omega arith)
    ];
    completed = is_found_stays given (gift ∷ []) (Completed (w - 1)) completed;
    uncompleted = λ v is. elim (found_before_or given gift (Completed v) is) [
      | inl old ↦ uncompleted v old
      | inr new ↦ cc
    ];
  } where
    gift : Gift Post
    gift = record { item = Posted w k; iteration = k; post = post }

  -- after the post of a turn is accepted
  pub window_accepted : (given : List (Gift Post)) (w k : ℕ) → 1 ≤ w → HasTurn given w k → HasWindow (accepts w k given) w
  window_accepted given w k window has = by (found given (Posted w k)) has.turn where
    by : (o : Option (Gift Post)) → IsSome o → HasWindow (given ++ option_to_list (option_map (accepted_for w) o)) w
    by None is = cc
    by (Some gift) is = record {
      order = completed_in_order given (accepted_for w gift) w has.order refl
          (λ v e. let same : w - 1 ≡ v = omega arith in subst (λ (u : ℕ). IsSome (found given (Completed u))) same has.completed);
      completed = found_last given (accepted_for w gift) (Completed w) refl;
      uncompleted = λ v some. elim (found_before_or given (accepted_for w gift) (Completed v) some) [
        | inl old ↦ let less = has.uncompleted v old in omega arith
        | inr new ↦ let e : w ≡ v = cc in omega arith
      ];
      posted = λ v j some. elim (found_before_or given (accepted_for w gift) (Posted v j) some) [
        | inl old ↦ elim (has.posted v j old) [ inl less ↦ omega arith | inr same ↦ omega (arith, same.0) ]
        | inr new ↦ cc
      ];
    }
