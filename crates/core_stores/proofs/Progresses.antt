-- How far an exchange has come is told by where its sender stands.
use Rattle.std.proofs.Common.{◌≡◌, ℕ, suc, ◌+◌, ◌-◌, ◌<◌, ◌≤◌, inl, inr, Bool, true, false, if◌then◌else◌, List, Option, IsSome, is_some, refl, sym, ap, ◌∙◌, arith}
use Rattle.std.proofs.lemmas.Bool.{cases_lt}
use Rattle.cpl_plan.specs.declared.words.Item.{Item}
use Rattle.cpl_plan.specs.declared.words.Item.TheVariants.{Completed, Posted}
use Rattle.coupled_loop.specs.Given.{Gift, Look, found}
use Rattle.coupled_loop.specs.Frames.{Frame}
use Rattle.coupled_loop.specs.Settled.{IsInOrder as LookInOrder}
use Rattle.core_laws.proofs.Well.{HasPostedBefore, IsBefore}
use Rattle.core_sides.proofs.PlaceTells.{completed_before}
use Rattle.sample_store.specs.Held.{newest_accepted, HoldsEndBefore}
use Rattle.sample_store.specs.InOrder.{IsLater, IsInOrder}
use Rattle.sample_store.specs.NextTurn.{next_turn}
use Rattle.sample_store.specs.declared.progress.Progress.{Progress}

module _ {Post Wave Inputs Fault : Type 0} (frame : Frame Post Inputs Fault) (f : Look Post) (part : ℕ) (given : List (Gift Wave)) (progress : Progress)
    (order : IsInOrder given progress) (same : (item : Item) → is_some (found given item) ≡ is_some (f part item)) where
  -- what comes later was not given
  not_later : (item : Item) → IsLater progress item → IsSome (f part item) → ⊥
  not_later item later is = let none : is_some (found given item) ≡ false = ap (λ (o : Option (Gift Wave)). is_some o) (order.later item later) in
      let never : false ≡ true = sym none ∙ same item ∙ is in cc

  module _ (w k : ℕ) (before : IsBefore frame f part w k) where
    -- the newest accepted window is the one before
    pub accepted_is : newest_accepted progress + 1 ≡ w
    accepted_is = elim (cases_lt (newest_accepted progress) (w - 1)) [
      | inl less ↦ absurd (not_later (Completed (w - 1)) less before.completed)
      | inr past ↦
          let below : newest_accepted progress < w = before.uncompleted (newest_accepted progress)
          (sym (same (Completed (newest_accepted progress))) ∙ order.windows (newest_accepted progress) (omega arith)) in
          omega (arith, past, below, before.window)
    ]

    -- the newest window, where it is not accepted
    open_is : progress.is_accepted ≡ false → (progress.window ≡ w) × (1 ≤ progress.iteration) × IsSome (f part (Posted progress.window progress.iteration))
    open_is is_open =
        let there = order.newest is_open in
        let turn = order.turns progress.window progress.iteration there in
        let last : progress.window - 1 + 1 ≡ w = ap (λ (b : Bool). (if b then progress.window else progress.window - 1) + 1) (sym is_open) ∙ accepted_is in
        (omega (arith, last, turn.0), turn.1, sym (same (Posted progress.window progress.iteration)) ∙ there)

    closed_is : progress.is_accepted ≡ true → progress.window + 1 ≡ w
    closed_is is_closed = ap (λ (b : Bool). (if b then progress.window else progress.window - 1) + 1) (sym is_closed) ∙ accepted_is

    newest_below : (n : ℕ) → HasPostedBefore frame f part w n → progress.is_accepted ≡ false → progress.iteration < n
    newest_below n posted is_open =
        let own = open_is is_open in
        elim (posted progress.window progress.iteration own.2) [
          | inl less ↦ absurd (omega (arith, less, own.0))
          | inr turn ↦ turn.1
        ]

    -- before a post its turn is the next
    pub next_turn_is : 1 ≤ k → HasPostedBefore frame f part w k → ((j : ℕ) → 1 ≤ j → j < k → IsSome (f part (Posted w j))) → next_turn progress ≡ (w, k)
    next_turn_is some posted below = by progress.is_accepted refl where
      by : (b : Bool) → progress.is_accepted ≡ b → next_turn progress ≡ (w, k)
      by true is = elim (cases_lt 1 k) [
        | inl more ↦ absurd (not_later (Posted w (k - 1)) (inl (let next = closed_is is in omega (arith, next))) (below (k - 1) (omega (arith, more)) (omega (arith, more))))
        | inr first ↦
            let one : 1 ≡ k = omega (arith, first, some) in
            ap (λ (b : Bool). if b then (progress.window + 1, 1) else (progress.window, progress.iteration + 1)) is
            ∙ ap (λ (v : ℕ). (v, 1)) (closed_is is) ∙ ap (λ (j : ℕ). (w, j)) one
      ]
      by false is =
          let own = open_is is in
          let less = newest_below k posted is in
          elim (cases_lt (progress.iteration + 1) k) [
            | inl further ↦ absurd (not_later (Posted w (k - 1)) (inr (sym own.0, omega (arith, further))) (below (k - 1) (omega (arith, further)) (omega (arith, further))))
            | inr last ↦
                let now : progress.iteration + 1 ≡ k = omega (arith, last, less) in
                ap (λ (b : Bool). if b then (progress.window + 1, 1) else (progress.window, progress.iteration + 1)) is
                ∙ ap (λ (v : ℕ). (v, progress.iteration + 1)) own.0 ∙ ap (λ (j : ℕ). (w, j)) now
          ]

    -- after it the turn is the newest
    pub posted_is : HasPostedBefore frame f part w (suc k) → IsSome (f part (Posted w k)) → (progress.is_accepted ≡ false) × (progress.window ≡ w) × (progress.iteration ≡ k)
    posted_is posted there = by progress.is_accepted refl where
      by : (b : Bool) → progress.is_accepted ≡ b → (progress.is_accepted ≡ false) × (progress.window ≡ w) × (progress.iteration ≡ k)
      by true is = absurd (not_later (Posted w k) (inl (let next = closed_is is in omega (arith, next))) there)
      by false is =
          let own = open_is is in
          let less = newest_below (suc k) posted is in (
            is,
            own.0,
            elim (cases_lt progress.iteration k) [
              | inl earlier ↦ absurd (not_later (Posted w k) (inr (sym own.0, earlier)) there)
              | inr last ↦ omega (arith, last, less)
            ],
          )

    -- the end of the window before v is held, where that window was given and the one after v was not
    pub holds_end : (v : ℕ) → LookInOrder f → 1 ≤ v → IsSome (f part (Completed (v - 1))) → (IsSome (f part (Completed (v + 1))) → ⊥) → HoldsEndBefore progress v
    holds_end v in_order some given_it not_further =
        let low : v - 1 < w = before.uncompleted (v - 1) given_it in
        let high : w ≤ v + 1 = elim (cases_lt (v + 1) w) [
          | inl further ↦ absurd (not_further (completed_before frame f in_order part (w - 1) before.completed (v + 1) (omega (arith, further))))
          | inr near ↦ near
        ] in (
          some,
          elim (cases_lt v w) [
            | inl ahead ↦ inr (omega (arith, ahead, high, accepted_is, some))
            | inr level ↦ inl (omega (arith, level, low, accepted_is, some))
          ],
        )
