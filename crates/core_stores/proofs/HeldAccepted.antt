-- What was accepted for a window is held whole, as long as its sender has posted nothing for a later one.
use Rattle.std.proofs.Common.{◌≡◌, ℕ, ◌+◌, ◌-◌, ◌<◌, ◌≤◌, Bool, true, false, if◌then◌else◌, List, Option, Some, None, IsSome, is_some, inl, inr, refl, sym, ap, ◌∙◌, arith}
use Rattle.std.proofs.lemmas.Bool.{cases_lt}
use Rattle.cpl_plan.specs.declared.parts.PlanParts.{PlanParts}
use Rattle.cpl_plan.specs.declared.parts.Exchange.{Exchange}
use Rattle.cpl_plan.specs.declared.words.Item.{Item}
use Rattle.cpl_plan.specs.declared.words.Item.TheVariants.{Completed, Posted}
use Rattle.coupled_loop.specs.Given.{Gift, Look, found}
use Rattle.coupled_loop.specs.CoreState.{look_in}
use Rattle.wave_coupling.specs.Posts.{Post}
use Rattle.sample_store.specs.Held.{newest_accepted, HoldsAccepted}
use Rattle.sample_store.specs.InOrder.{IsInOrder}
use Rattle.sample_store.specs.Kept.{Kept as StoreKept}
use Rattle.sample_store.specs.StandsFor.{StandsFor as StoreStandsFor}
use Rattle.sample_store.specs.declared.progress.Progress.{Progress}
use Rattle.core_sides.specs.CoreWords.{WaveState}
use Rattle.core_stores.specs.StoresStand.{gifts_of}
use Rattle.core_stores.proofs.HeldEnds.{is_given_same}

module _ {Post Wave : Type 0} (f : Look Post) (part w : ℕ) (given : List (Gift Wave)) (progress : Progress) (order : IsInOrder given progress)
    (same : (item : Item) → is_some (found given item) ≡ is_some (f part item))
    (accepted : IsSome (f part (Completed w))) (unposted : (v j : ℕ) → w < v → IsSome (f part (Posted v j)) → ⊥) where
  not_posted : (v j : ℕ) → w < v → IsSome (found given (Posted v j)) → ⊥
  not_posted v j less is = unposted v j less (sym (same (Posted v j)) ∙ is)

  -- nothing was accepted for the window after it
  not_completed : IsSome (found given (Completed (w + 1))) → ⊥
  not_completed is = by (found given (Completed (w + 1))) refl is where
    by : (o : Option (Gift Wave)) → found given (Completed (w + 1)) ≡ o → IsSome o → ⊥
    by (Some gift) e some =
        let some_window : 1 ≤ w + 1 = omega arith in
        let later : w < w + 1 = omega arith in
        not_posted (w + 1) gift.iteration later (ap is_some (order.acceptances (w + 1) gift some_window e))
    by None e some = cc

  newest_is : newest_accepted progress ≡ w
  newest_is = elim (cases_lt (newest_accepted progress) w) [
    | inl less ↦ absurd (none_there (ap is_some (order.later (Completed w) less)) (same (Completed w) ∙ accepted))
    | inr past ↦ elim (cases_lt w (newest_accepted progress)) [
      | inl more ↦ absurd (not_completed (order.windows (w + 1) (omega (arith, more))))
      | inr level ↦ omega (arith, past, level)
    ]
  ] where
    none_there : is_some (found given (Completed w)) ≡ false → is_some (found given (Completed w)) ≡ true → ⊥
    none_there none some = cc

  pub holds_accepted : HoldsAccepted progress w
  holds_accepted = by progress.is_accepted refl where
    newest_by : (b : Bool) → progress.is_accepted ≡ b → (if b then progress.window else progress.window - 1) ≡ w
    newest_by b is = ap (λ (t : Bool). if t then progress.window else progress.window - 1) (sym is) ∙ newest_is

    by : (b : Bool) → progress.is_accepted ≡ b → HoldsAccepted progress w
    by true is = (is, sym (newest_by true is))
    by false is =
        let there = order.newest is in
        let turn = order.turns progress.window progress.iteration there in
        let window : progress.window - 1 ≡ w = newest_by false is in
        let later : w < progress.window = omega (arith, window, turn.0) in
        absurd (not_posted progress.window progress.iteration later there)

-- of an exchange whose sender has completed window w, and posted nothing for a later one
pub held_accepted : (plan : PlanParts) (sides : WaveState) (x w : ℕ) (e : Exchange) (store : StoreKept)
    → StoreStandsFor (gifts_of plan e x (sides e.from).given) store
    → IsSome (look_in sides e.from (Completed w)) → ((v j : ℕ) → w < v → IsSome (look_in sides e.from (Posted v j)) → ⊥)
    → HoldsAccepted store.progress w
held_accepted plan sides x w e store stands accepted unposted =
    holds_accepted (look_in sides) e.from w (gifts_of plan e x (sides e.from).given) store.progress stands.order
    (is_given_same plan e x (sides e.from).given) accepted unposted
