-- All that participants have given fits, as a look at it.
use Rattle.std.proofs.Common.{◌≡◌, ℕ, zero, suc, ◌<◌, ◌≤◌, length, slice_get, Option, Some, None, IsSome, refl, sym, subst, arith}
use Rattle.std.proofs.lemmas.Bool.{false≢true}
use Rattle.std.proofs.lemmas.Option.{slice_get_within}
use Rattle.cpl_plan.specs.PlanWords.{components_of}
use Rattle.cpl_plan.specs.ValidPlan.{IsValidPlan}
use Rattle.cpl_plan.specs.declared.parts.PlanParts.{PlanParts}
use Rattle.cpl_plan.specs.declared.parts.Exchange.{Exchange}
use Rattle.cpl_plan.specs.declared.words.Item.TheVariants.{Completed, Posted}
use Rattle.coupled_loop.specs.Given.{Gift, Look}
use Rattle.coupled_loop.specs.Settled.{IsInOrder}
use Rattle.core_laws.proofs.Looks.{extends_itself}
use Rattle.wave_coupling.specs.Posts.{Post}
use Rattle.wave_coupling.specs.InputWave.{sent_as, completed}
use Rattle.wave_coupling.specs.Coupling.{start_of}
use Rattle.wave_laws.specs.Fitting.{IsInitialWave, IsPostedWave, IsFittingLook, count_of, end_told}
use Rattle.wave_values.proofs.Served.{written_for}
use Rattle.wave_readings.proofs.Invariant.{GiftsFit}

module _ (plan : PlanParts) (valid : IsValidPlan plan) (vertices : ℕ → ℕ) (f : Look Post) (order : IsInOrder f) (gifts : (part : ℕ) → part < length plan.parts → GiftsFit plan vertices f part) where
  there_is : (o : Option (Gift Post)) → IsSome o → (gift : Gift Post) × (o ≡ Some gift)
  there_is None is = absurd (false≢true is)
  there_is (Some gift) is = (gift, refl)

  sender_below : (x : ℕ) (e : Exchange) → slice_get plan.exchanges x ≡ Some e → e.from < length plan.parts
  sender_below x e at = let found = written_for plan valid x e at in slice_get_within plan.parts e.from found.0 found.1

  accepted_fits : (x w : ℕ) (e : Exchange) → slice_get plan.exchanges x ≡ Some e → 1 ≤ w → IsSome (f e.from (Completed w))
      → IsPostedWave (start_of plan f w) (end_told plan f w) (components_of plan e) (count_of plan vertices e) (completed plan f e x w).wave
  accepted_fits x zero e at first is = absurd (omega (arith, first))
  accepted_fits x (suc v) e at first is =
      let gift = there_is (f e.from (Completed (suc v))) is in
      subst (λ (o : Option (Gift Post)). IsPostedWave (start_of plan f (suc v)) (end_told plan f (suc v)) (components_of plan e) (count_of plan vertices e) (sent_as plan f e x o).wave) (sym gift.1)
      (gifts e.from (sender_below x e at) (Completed (suc v)) gift.0 gift.1 x e at refl f (extends_itself f) order)

  -- all that was given fits
  pub look_fits : IsFittingLook plan vertices f
  look_fits = record {
    initial = λ x e at is.
        let gift = there_is (f e.from (Completed 0)) is in
        subst (λ (o : Option (Gift Post)). IsInitialWave (components_of plan e) (count_of plan vertices e) (sent_as plan f e x o).wave) (sym gift.1)
        (gifts e.from (sender_below x e at) (Completed 0) gift.0 gift.1 x e at refl f (extends_itself f) order);
    accepted = accepted_fits;
    posts = λ x w k e at is.
        let gift = there_is (f e.from (Posted w k)) is in
        subst (λ (o : Option (Gift Post)). IsPostedWave (start_of plan f w) (end_told plan f w) (components_of plan e) (count_of plan vertices e) (sent_as plan f e x o).wave) (sym gift.1)
        (gifts e.from (sender_below x e at) (Posted w k) gift.0 gift.1 x e at refl f (extends_itself f) order);
  }
