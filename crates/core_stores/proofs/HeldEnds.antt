-- The end of the window before, of each exchange that a participant receives, is held when it takes its inputs.
use Rattle.std.proofs.Common.{◌≡◌, ℕ, suc, ◌+◌, ◌-◌, ◌<◌, ◌≤◌, List, [], Option, Some, None, IsSome, is_some, option_map, refl, ap, subst, ◌∙◌, arith, length, slice_get}
use Rattle.cpl_plan.specs.ValidPlan.{IsValidPlan}
use Rattle.cpl_plan.specs.declared.parts.PlanParts.{PlanParts}
use Rattle.cpl_plan.specs.declared.parts.Exchange.{Exchange}
use Rattle.cpl_plan.specs.declared.words.Item.{Item}
use Rattle.cpl_plan.specs.declared.words.Item.TheVariants.{Completed}
use Rattle.coupled_loop.specs.Given.{Gift, found}
use Rattle.coupled_loop.specs.CoreState.{Place, sending, collecting, opening, taking, within, judging, look_in}
use Rattle.coupled_loop.specs.Settled.{AreNeedsGiven}
use Rattle.core_laws.proofs.Well.{Stands, IsBefore}
use Rattle.wave_coupling.specs.Posts.{Wave, Post, wave_of}
use Rattle.wave_coupling.specs.Coupling.{wave_frame}
use Rattle.wave_laws.proofs.Senders.{is_exchange}
use Rattle.sample_store.specs.Kept.{Kept as StoreKept}
use Rattle.sample_store.specs.Held.{HoldsEndBefore}
use Rattle.sample_store.specs.StandsFor.{StandsFor as StoreStandsFor}
use Rattle.sample_store.proofs.Mapped.{part_of, found_part}
use Rattle.core_sides.specs.CoreWords.{WaveState}
use Rattle.core_sides.proofs.Aligned.{IsTold}
use Rattle.core_sides.proofs.Apart.{partner_before, never_ahead}
use Rattle.core_stores.specs.StoresStand.{gifts_of}
use Rattle.core_stores.proofs.Progresses.{holds_end}

-- what is given of an exchange is given by its sender
pub is_given_same : (plan : PlanParts) (e : Exchange) (x : ℕ) (given : List (Gift Post)) (item : Item) → is_some (found (gifts_of plan e x given) item) ≡ is_some (found given item)
is_given_same plan e x given item = ap (λ (o : Option (Gift Wave)). is_some o) (found_part (wave_of plan e x) given item) ∙ mapped (found given item) where
  mapped : (o : Option (Gift Post)) → is_some (option_map (part_of (wave_of plan e x)) o) ≡ is_some o
  mapped (Some gift) = refl
  mapped None = refl

module _ (plan : PlanParts) (valid : IsValidPlan plan) (sides : WaveState) (told : IsTold (wave_frame plan) sides) where
  -- who has given something stands before a turn
  stands_before : (q v : ℕ) → IsSome (look_in sides q (Completed v)) → (w : ℕ) × (k : ℕ) × IsBefore (wave_frame plan) (look_in sides) q w k
  stands_before q v is = by (sides q).place (told.well.stands q) where
    none : (sides q).given ≡ [] → ⊥
    none empty = let never : IsSome (found {Post = Post} [] (Completed v)) = subst (λ (given : List (Gift Post)). IsSome (found given (Completed v))) empty is in cc

    by : (place : Place) → Stands (wave_frame plan) (look_in sides) q place (sides q).given → (w : ℕ) × (k : ℕ) × IsBefore (wave_frame plan) (look_in sides) q w k
    by sending stands = absurd (none stands)
    by collecting stands = absurd (none stands)
    by opening stands = absurd (none stands)
    by (taking w k) stands = (w, k, stands.0)
    by (within w k) stands = (w, k, stands.0)
    by (judging scheme w k) stands = (w, k, stands.1)

  -- of the exchanges that a participant receives, when it takes its inputs of turn (w, k)
  pub held_end : (x w k : ℕ) (e : Exchange) (store : StoreKept) → slice_get plan.exchanges x ≡ Some e → e.from < length plan.parts → 1 ≤ w
      → AreNeedsGiven (wave_frame plan) (look_in sides) e.to w k → (IsSome (look_in sides e.to (Completed w)) → ⊥)
      → StoreStandsFor (gifts_of plan e x (sides e.from).given) store → HoldsEndBefore store.progress w
  held_end x w k e store at below window needed unfinished stands =
      let is = is_exchange plan valid x e at in
      let given_it = partner_before plan valid e.scheme is.scheme is.stands e.to e.from is.reader is.sender is.apart (look_in sides) w k told.well.in_order needed in
      let place = stands_before e.from (w - 1) given_it in
      let next : w + 1 ≡ suc w = omega arith in
      holds_end (wave_frame plan) (look_in sides) e.from (gifts_of plan e x (sides e.from).given) store.progress stands.order
      (is_given_same plan e x (sides e.from).given) place.0 place.1 place.2 w told.well.in_order window given_it
      (λ further. unfinished (never_ahead plan valid e.scheme is.scheme is.stands e.to e.from is.reader is.sender is.apart below sides told w
      (subst (λ (v : ℕ). IsSome (look_in sides e.from (Completed v))) next further)))
