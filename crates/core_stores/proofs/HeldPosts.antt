-- The posts that a member of an implicit scheme reads are held when it takes its inputs.
use Rattle.std.proofs.Common.{◌≡◌, ℕ, zero, suc, ◌+◌, ◌-◌, ◌<◌, ◌≤◌, inl, inr, Bool, true, false, if◌then◌else◌, List, [], Option, Some, None, IsSome, is_some, refl, sym, ap, subst, ◌∙◌, arith}
use Rattle.std.proofs.lemmas.Bool.{cases_lt}
use Rattle.cpl_plan.specs.declared.words.Item.{Item}
use Rattle.cpl_plan.specs.declared.words.Item.TheVariants.{Completed, Posted}
use Rattle.coupled_loop.specs.Given.{Gift, found}
use Rattle.coupled_loop.specs.Endings.{Judgement, again}
use Rattle.coupled_loop.specs.Frames.{Frame}
use Rattle.coupled_loop.specs.CoreState.{Place, sending, collecting, opening, taking, within, judging, CoreState, look_in, turn_at}
use Rattle.core_laws.proofs.GoodMoves.{among_members, positive}
use Rattle.core_laws.proofs.Sound.{IsSound}
use Rattle.core_laws.proofs.Well.{HasPostedBefore, IsBefore, Stands}
use Rattle.core_sides.proofs.Aligned.{IsAccepting, IsJudgedBy, IsTold}
use Rattle.core_sides.proofs.PlaceTells.{completed_before}
use Rattle.sample_store.specs.Held.{HoldsIterate}
use Rattle.sample_store.specs.InOrder.{IsInOrder}
use Rattle.sample_store.specs.NextTurn.{next_turn}
use Rattle.sample_store.specs.declared.progress.Progress.{Progress}
use Rattle.core_stores.proofs.Progresses.{next_turn_is, posted_is}

-- the turn before the next one, where that is no first iteration
turn_before : (progress : Progress) (w k : ℕ) → 2 ≤ k → next_turn progress ≡ (w, k) → HoldsIterate progress w (k - 1)
turn_before progress w k more next = by progress.is_accepted refl where
  by : (b : Bool) → progress.is_accepted ≡ b → HoldsIterate progress w (k - 1)
  by true is =
      let first : 1 ≡ k = ap (λ (turn : ℕ × ℕ). turn.1) (sym (ap (λ (b : Bool). if b then (progress.window + 1, 1) else (progress.window, progress.iteration + 1)) is) ∙ next) in
      absurd (omega (arith, first, more))
  by false is =
      let same = sym (ap (λ (b : Bool). if b then (progress.window + 1, 1) else (progress.window, progress.iteration + 1)) is) ∙ next in
      let window : progress.window ≡ w = ap (λ (turn : ℕ × ℕ). turn.0) same in
      let iteration : progress.iteration + 1 ≡ k = ap (λ (turn : ℕ × ℕ). turn.1) same in
      (sym window, omega (arith, more), inl (omega (arith, iteration)))

module _ {Mesh Post Inputs Fault : Type 0} (frame : Frame Post Inputs Fault) (sound : IsSound frame) (sides : CoreState Mesh Post Fault) (told : IsTold frame sides)
    (scheme p q : ℕ) (is_p : p < frame.parts) (is_q : q < frame.parts) (p_in : frame.group p ≡ Some scheme) (q_in : frame.group q ≡ Some scheme)
    (w k : ℕ) (window : 1 ≤ w) (iteration : 1 ≤ k) (at_turn : turn_at (sides p).place ≡ (w, k)) (unposted : HasPostedBefore frame (look_in sides) p w k) where
  not_again : (judgement : Judgement Fault) → IsAccepting judgement → judgement ≡ again → ⊥
  not_again judgement accepting is = subst IsAccepting is accepting

  not_posted : IsSome (look_in sides p (Posted w k)) → ⊥
  not_posted is = elim (unposted w k is) [ inl less ↦ omega (arith, less) | inr own ↦ omega (arith, own.1) ]

  -- no member completes the window before the others have posted
  unfinished : IsSome (look_in sides q (Completed w)) → ⊥
  unfinished some = by w refl some window where
    of_gift : (u : ℕ) → w ≡ suc u → (o : Option (Gift Post)) → found (sides q).given (Completed (suc u)) ≡ o → IsSome o → ⊥
    of_gift u is None e has = cc
    of_gift u is (Some gift) e has =
        let here : IsJudgedBy frame (look_in sides) scheme w gift.iteration IsAccepting =
        subst (λ (v : ℕ). IsJudgedBy frame (look_in sides) scheme v gift.iteration IsAccepting) (sym is) ((told.aligned.each q is_q).accepted scheme u gift q_in e) in
        elim (unposted w gift.iteration (here.posted p gift.iteration (among_members frame sound p scheme is_p p_in) here.iteration (omega arith))) [
          | inl less ↦ omega (arith, less)
          | inr own ↦ not_again (frame.judge (look_in sides) scheme w gift.iteration) here.so
              ((told.aligned.each p is_p).passed scheme w k gift.iteration p_in at_turn here.iteration own.1).so
        ]

    by : (n : ℕ) → w ≡ n → IsSome (look_in sides q (Completed n)) → 1 ≤ n → ⊥
    by zero is has positive_n = omega (arith, positive_n)
    by (suc u) is has positive_n = of_gift u is (found (sides q).given (Completed (suc u))) refl has

  -- nor goes on to a later window or iteration
  module _ (v j : ℕ) (before : IsBefore frame (look_in sides) q v j) where
    no_later_window : w < v → ⊥
    no_later_window less = unfinished (completed_before frame (look_in sides) told.well.in_order q (v - 1) before.completed w (omega (arith, less)))

    no_later_turn : v ≡ w → k < j → ⊥
    no_later_turn same less =
        not_posted (subst (λ (u : ℕ). IsSome (look_in sides p (Posted u k))) same (before.group scheme q_in p k (among_members frame sound p scheme is_p p_in) iteration less))

  module _ {Wave : Type 0} (given : List (Gift Wave)) (progress : Progress) (order : IsInOrder given progress)
      (same : (item : Item) → is_some (found given item) ≡ is_some (look_in sides q item)) where
    nothing : (item : Item) → (sides q).given ≡ [] → IsSome (look_in sides q item) → ⊥
    nothing item empty is = let never : IsSome (found {Post = Post} [] item) = subst (λ (list : List (Gift Post)). IsSome (found list item)) empty is in cc

    judged_turn : (v j i : ℕ) → IsBefore frame (look_in sides) q v j → HasPostedBefore frame (look_in sides) q v (suc j) → IsSome (look_in sides q (Posted v j))
        → 1 ≤ i → IsSome (look_in sides q (Posted w i)) → k ≤ i + 1 → HoldsIterate progress w i
    judged_turn v j i before posted there some is near = elim (posted w i is) [
      | inl less ↦ absurd (no_later_window v j before less)
      | inr own ↦
          let now = posted_is frame (look_in sides) q given progress order same v j before posted there in
          elim (cases_lt k j) [
            | inl further ↦ absurd (no_later_turn v j before (sym own.0) further)
            | inr level ↦ (
              own.0 ∙ sym now.1,
              some,
              elim (cases_lt i j) [
                | inl one_less ↦ inr (omega (arith, one_less, level, near, now.2))
                | inr last ↦ inl (omega (arith, last, own.1, now.2))
              ],
            )
          ]
    ]

    open_turn : (v j i : ℕ) → IsBefore frame (look_in sides) q v j → HasPostedBefore frame (look_in sides) q v j
        → 1 ≤ i → IsSome (look_in sides q (Posted w i)) → k ≤ i + 1 → HoldsIterate progress w i
    open_turn v j i before posted some is near = elim (posted w i is) [
      | inl less ↦ absurd (no_later_window v j before less)
      | inr own ↦ elim (cases_lt k j) [
        | inl further ↦ absurd (no_later_turn v j before (sym own.0) further)
        | inr level ↦
            let next : next_turn progress ≡ (v, j) = next_turn_is frame (look_in sides) q given progress order same v j before (positive frame (frame.group q) j before.iteration) posted
            (λ i from less. before.group scheme q_in q i (among_members frame sound q scheme is_q q_in) from less) in
            let held = turn_before progress v j (omega (arith, own.1, some)) next in
            let now : j - 1 ≡ i = omega (arith, own.1, level, near) in
            subst (λ (n : ℕ). HoldsIterate progress w n) now (subst (λ (u : ℕ). HoldsIterate progress u (j - 1)) (sym own.0) held)
      ]
    ]

    -- the post of this iteration, or of the one before it, is held where it was given
    pub held_post : (i : ℕ) → 1 ≤ i → k ≤ i + 1 → IsSome (look_in sides q (Posted w i)) → HoldsIterate progress w i
    held_post i some near is = by (sides q).place (told.well.stands q) where
      by : (place : Place) → Stands frame (look_in sides) q place (sides q).given → HoldsIterate progress w i
      by sending stands = absurd (nothing (Posted w i) stands is)
      by collecting stands = absurd (nothing (Posted w i) stands is)
      by opening stands = absurd (nothing (Posted w i) stands is)
      by (taking v j) stands = open_turn v j i stands.0 stands.1 some is near
      by (within v j) stands = open_turn v j i stands.0 stands.2 some is near
      by (judging own v j) stands = judged_turn v j i stands.1 stands.4 stands.3 some is near
