-- What was given is in order, and stays so with one gift more.
use Rattle.std.proofs.Common.{◌≡◌, ℕ, suc, ◌+◌, ◌-◌, ◌≤◌, Bool, true, false, inl, inr, List, [], ◌∷◌, ◌++◌, Option, Some, None, IsSome, is_some, option_map, option_to_list, refl, sym, ap, subst, ◌∙◌, arith}
use Rattle.std.proofs.lemmas.Bool.{cases_eq}
use Rattle.std.proofs.lemmas.Option.{none-some}
use Rattle.cpl_plan.specs.declared.words.Item.{Item}
use Rattle.cpl_plan.specs.declared.words.Item.TheVariants.{Completed, Posted}
use Rattle.coupled_loop.specs.Given.{Gift, found, gives, accepts, accepted_for}
use Rattle.sample_store.specs.declared.progress.Progress.{Progress}
use Rattle.sample_store.specs.NextTurn.{next_turn}
use Rattle.sample_store.specs.Held.{newest_accepted}
use Rattle.sample_store.specs.InOrder.{IsLater, IsInOrder}
use Rattle.sample_store.proofs.Looks.{found_stays, is_found_stays, found_is, still_none, found_before_or, is_found_before_or, found_last}

abbrev pub at : (w n : ℕ) → Bool → Progress
at w n accepted = record { window = w; iteration = n; is_accepted = accepted }

-- what comes later than a post is another item
apart_from : (w k : ℕ) (item : Item) → IsLater (at w k false) item → Posted w k ≡ item → ⊥
apart_from w k (Completed v) later same = cc
apart_from w k (Posted v j) (inl after) same = let first : w ≡ v = cc in omega arith
apart_from w k (Posted v j) (inr after) same = let second : k ≡ j = cc in let more = after.1 in omega arith

-- what comes later than the first post of the next window came later before
later_window : (w n : ℕ) (item : Item) → IsLater (at (w + 1) 1 false) item → IsLater (at w n true) item
later_window w n (Completed v) later = omega arith
later_window w n (Posted v j) (inl after) = inl (omega arith)
later_window w n (Posted v j) (inr after) = let same = after.0 in inl (omega arith)

-- the same of the next iteration
later_iteration : (w n : ℕ) (item : Item) → IsLater (at w (n + 1) false) item → IsLater (at w n false) item
later_iteration w n (Completed v) later = later
later_iteration w n (Posted v j) (inl after) = inl after
later_iteration w n (Posted v j) (inr after) = let more = after.1 in inr (after.0, omega arith)

module _ {Post : Type 0} where
  pub opened_in_order : (post : Post) → IsInOrder (gives (Completed 0) 0 post []) (at 0 0 true)
  opened_in_order post = record {
    later = λ item later. still_none [] gift item refl (λ same. not_later item later same);
    windows = λ v h. let e : v ≡ 0 = omega arith in found_last [] gift (Completed v) (ap Completed (sym e));
    turns = λ v j is. (cc, cc, cc);
    iterations = λ v j is. cc;
    newest = λ e. cc;
    numbered = λ v j one is. cc;
    acceptances = λ v one h is. absurd (not_found v one h is);
  } where
    gift : Gift Post
    gift = record { item = Completed 0; iteration = 0; post = post }

    not_later : (item : Item) → IsLater (at 0 0 true) item → Completed 0 ≡ item → ⊥
    not_later (Completed v) later same = let e : 0 ≡ v = cc in omega arith
    not_later (Posted v j) later same = cc

    not_found : (v : ℕ) (one : Gift Post) → 1 ≤ v → found (gift ∷ []) (Completed v) ≡ Some one → ⊥
    not_found v one h is = elim (found_before_or [] gift (Completed v) one is) [
      | inl before ↦ none-some one before
      | inr new ↦ let same = new.0 in let e : 0 ≡ v = cc in omega arith
    ]

  module _ (given : List (Gift Post)) (progress : Progress) (w k : ℕ) (post : Post) (order : IsInOrder given progress) where
    abbrev more : Gift Post
    more = record { item = Posted w k; iteration = k; post = post }

    -- a turn more
    post_more : 1 ≤ w → 1 ≤ k → newest_accepted progress ≡ w - 1 → ((item : Item) → IsLater (at w k false) item → IsLater progress item)
        → IsSome (found given (Completed (w - 1))) → ((j : ℕ) → k ≡ suc (suc j) → IsSome (found given (Posted w (suc j))))
        → IsInOrder (gives (Posted w k) k post given) (at w k false)
    post_more window iteration accepted later completed before = record {
      later = λ item is. still_none given more item (order.later item (later item is)) (apart_from w k item is);
      windows = λ v h. is_found_stays given (more ∷ []) (Completed v) (order.windows v (subst (λ (u : ℕ). v ≤ u) (sym accepted) h));
      turns = λ v j now. elim (is_found_before_or given more (Posted v j) now) [
        | inl old ↦ let o = order.turns v j old in (o.0, o.1, is_found_stays given (more ∷ []) (Completed (v - 1)) o.2)
        | inr new ↦ let same_window : w ≡ v = cc in let same_iteration : k ≡ j = cc in (
          subst (λ (u : ℕ). 1 ≤ u) same_window window,
          subst (λ (u : ℕ). 1 ≤ u) same_iteration iteration,
          subst (λ (u : ℕ). IsSome (found (given ++ more ∷ []) (Completed (u - 1)))) same_window (is_found_stays given (more ∷ []) (Completed (w - 1)) completed),
        )
      ];
      iterations = λ v j now. elim (is_found_before_or given more (Posted v (suc (suc j))) now) [
        | inl old ↦ is_found_stays given (more ∷ []) (Posted v (suc j)) (order.iterations v j old)
        | inr new ↦ let same_window : w ≡ v = cc in let same_iteration : k ≡ suc (suc j) = cc in
            is_found_stays given (more ∷ []) (Posted v (suc j)) (subst (λ (u : ℕ). IsSome (found given (Posted u (suc j)))) same_window (before j same_iteration))
      ];
      newest = λ e. found_last given more (Posted w k) refl;
      numbered = λ v j one is. elim (found_before_or given more (Posted v j) one is) [
        | inl old ↦ order.numbered v j one old
        | inr new ↦ let same = new.0 in let same_iteration : k ≡ j = cc in ap (λ (g : Gift Post). g.iteration) (sym new.1) ∙ same_iteration
      ];
      acceptances = λ v one h is. elim (found_before_or given more (Completed v) one is) [
        | inl old ↦ found_stays given (more ∷ []) (Posted v one.iteration) _ (order.acceptances v one h old)
        | inr new ↦ let same = new.0 in cc
      ];
    }

  module _ (given : List (Gift Post)) (w n : ℕ) (post : Post) where
    pub window_in_order : IsInOrder given (at w n true) → IsInOrder (gives (Posted (w + 1) 1) 1 post given) (at (w + 1) 1 false)
    window_in_order order =
        post_more given (at w n true) (w + 1) 1 post order (omega arith) (omega arith) (omega arith) (later_window w n)
        (order.windows (w + 1 - 1) (omega arith)) (λ j e. absurd (omega arith))

    pub iteration_in_order : IsInOrder given (at w n false) → IsInOrder (gives (Posted w (n + 1)) (n + 1) post given) (at w (n + 1) false)
    iteration_in_order order =
        let turn = order.turns w n (order.newest refl) in
        post_more given (at w n false) w (n + 1) post order turn.0 (omega arith) refl (later_iteration w n) turn.2
        (λ j e. let same : n ≡ suc j = omega arith in subst (λ (u : ℕ). IsSome (found given (Posted w u))) same (order.newest refl))

    pub turn_in_order : (accepted : Bool) (v k : ℕ) → IsInOrder given (at w n accepted) → next_turn (at w n accepted) ≡ (v, k) → IsInOrder (gives (Posted v k) k post given) (at v k false)
    turn_in_order true v k order next =
        subst (λ (t : ℕ × ℕ). IsInOrder (gives (Posted t.0 t.1) t.1 post given) (at t.0 t.1 false)) next (window_in_order order)
    turn_in_order false v k order next =
        subst (λ (t : ℕ × ℕ). IsInOrder (gives (Posted t.0 t.1) t.1 post given) (at t.0 t.1 false)) next (iteration_in_order order)

  -- with the post of the next turn
  pub put_in_order : (given : List (Gift Post)) (progress : Progress) (w k : ℕ) (post : Post) → IsInOrder given progress → next_turn progress ≡ (w, k)
      → IsInOrder (gives (Posted w k) k post given) (at w k false)
  put_in_order given progress w k post order next = turn_in_order given progress.window progress.iteration post progress.is_accepted w k order next

  module _ (given : List (Gift Post)) (w n : ℕ) (one : Gift Post) (order : IsInOrder given (at w n false)) (is_one : found given (Posted w n) ≡ Some one) where
    abbrev acceptance : Gift Post
    acceptance = accepted_for w one

    -- the post, with its item and iteration as they are
    itself : one ≡ record one { item = Posted w n }
    itself = λ i. record { item = found_is given (Posted w n) one is_one i; iteration = one.iteration; post = one.post }

    own : (v : ℕ) → w ≡ v → found given (Posted v one.iteration) ≡ Some (record one { item = Posted v one.iteration })
    own v same =
        subst (λ (u : ℕ). found given (Posted u one.iteration) ≡ Some (record one { item = Posted u one.iteration })) same
        (subst (λ (m : ℕ). found given (Posted w m) ≡ Some (record one { item = Posted w m })) (sym (order.numbered w n one is_one))
        (is_one ∙ ap Some itself))

    later_accepted : (item : Item) → IsLater (at w n true) item → (1 ≤ w) → found (given ++ acceptance ∷ []) item ≡ None
    later_accepted (Completed v) later some = still_none given acceptance (Completed v) (order.later (Completed v) (omega arith)) (λ same. let e : w ≡ v = cc in omega arith)
    later_accepted (Posted v j) later some = still_none given acceptance (Posted v j) (order.later (Posted v j) later) (λ same. cc)

    pub acceptance_in_order : IsInOrder (given ++ accepted_for w one ∷ []) (at w n true)
    acceptance_in_order =
        let turn = order.turns w n (ap is_some is_one) in
        record {
          later = λ item is. later_accepted item is turn.0;
          windows = λ v h. elim (cases_eq v w) [
            | inl same ↦ found_last given acceptance (Completed v) (ap Completed (sym same))
            | inr apart ↦ is_found_stays given (acceptance ∷ []) (Completed v) (order.windows v (omega arith))
          ];
          turns = λ v j now. elim (is_found_before_or given acceptance (Posted v j) now) [
            | inl old ↦ let o = order.turns v j old in (o.0, o.1, is_found_stays given (acceptance ∷ []) (Completed (v - 1)) o.2)
            | inr new ↦ cc
          ];
          iterations = λ v j now. elim (is_found_before_or given acceptance (Posted v (suc (suc j))) now) [
            | inl old ↦ is_found_stays given (acceptance ∷ []) (Posted v (suc j)) (order.iterations v j old)
            | inr new ↦ cc
          ];
          newest = λ e. cc;
          numbered = λ v j other is. elim (found_before_or given acceptance (Posted v j) other is) [
            | inl old ↦ order.numbered v j other old
            | inr new ↦ let same = new.0 in cc
          ];
          acceptances = λ v other h is. elim (found_before_or given acceptance (Completed v) other is) [
            | inl old ↦ found_stays given (acceptance ∷ []) (Posted v other.iteration) _ (order.acceptances v other h old)
            | inr new ↦ let same = new.0 in let same_window : w ≡ v = cc in
                subst (λ (g : Gift Post). found (given ++ acceptance ∷ []) (Posted v g.iteration) ≡ Some (record g { item = Posted v g.iteration })) new.1
                (found_stays given (acceptance ∷ []) (Posted v one.iteration) _ (own v same_window))
          ];
        }

  -- the acceptance of a post that is found
  pub accepts_found : (given : List (Gift Post)) (w k : ℕ) (one : Gift Post) → found given (Posted w k) ≡ Some one → accepts w k given ≡ given ++ accepted_for w one ∷ []
  accepts_found given w k one is = ap (λ (o : Option (Gift Post)). given ++ option_to_list (option_map (accepted_for w) o)) is

  -- with the newest post accepted
  pub accepted_in_order : (given : List (Gift Post)) (progress : Progress) → IsInOrder given progress → progress.is_accepted ≡ false
      → IsInOrder (accepts progress.window progress.iteration given) (record progress { is_accepted = true })
  accepted_in_order given progress order still_open =
      by (found given (Posted progress.window progress.iteration)) refl (order.newest still_open) where
        by : (o : Option (Gift Post)) → found given (Posted progress.window progress.iteration) ≡ o → IsSome o
            → IsInOrder (accepts progress.window progress.iteration given) (record progress { is_accepted = true })
        by (Some one) e some =
            subst (λ (all : List (Gift Post)). IsInOrder all (at progress.window progress.iteration true))
            (sym (accepts_found given progress.window progress.iteration one e))
            (acceptance_in_order given progress.window progress.iteration one
            (subst (λ (b : Bool). IsInOrder given (at progress.window progress.iteration b)) still_open order) e)
        by None e some = cc
