-- Partners of a scheme are never more than one window apart.
use Rattle.std.proofs.Common.{◌≡◌, ℕ, suc, ◌-◌, ◌<◌, Bool, true, false, IsSome, sym, subst, arith, length, slice_get, Some, Contains}
use Rattle.cpl_plan.specs.Needs.{asked, is_second}
use Rattle.cpl_plan.specs.ValidPlan.{IsValidPlan}
use Rattle.cpl_plan.specs.declared.parts.PlanParts.{PlanParts}
use Rattle.cpl_plan.specs.declared.parts.Scheme.{Scheme}
use Rattle.cpl_plan.specs.declared.parts.SchemeKind.{SchemeKind}
use Rattle.cpl_plan.specs.declared.parts.SchemeKind.TheVariants.{SerialExplicit, ParallelExplicit, SerialImplicit, ParallelImplicit, Multi}
use Rattle.cpl_plan.specs.declared.words.Item.TheVariants.{Completed}
use Rattle.coupled_loop.specs.Given.{Look}
use Rattle.coupled_loop.specs.CoreState.{look_in}
use Rattle.coupled_loop.specs.Settled.{IsInOrder, AreNeedsGiven}
use Rattle.core_laws.proofs.PlanNeeds.{asks_of}
use Rattle.wave_coupling.specs.Posts.{Post}
use Rattle.wave_coupling.specs.Coupling.{wave_frame}
use Rattle.core_sides.specs.CoreWords.{WaveState}
use Rattle.core_sides.proofs.Aligned.{IsTold}
use Rattle.core_sides.proofs.PlaceTells.{completed_before}

module _ (plan : PlanParts) (look : Look Post) (order : IsInOrder look) (other : ℕ) where
  -- what is asked of a partner comes after the window before
  item_before : (kind : SchemeKind) (second : Bool) (w k : ℕ) → IsSome (look other (asked kind second w k)) → IsSome (look other (Completed (w - 1)))
  item_before SerialExplicit true w k is = completed_before (wave_frame plan) look order other w is (w - 1) (omega arith)
  item_before SerialExplicit false w k is = is
  item_before ParallelExplicit second w k is = is
  item_before SerialImplicit true w k is = (order.turns other w k is).2
  item_before SerialImplicit false w k is = is
  item_before ParallelImplicit second w k is = is
  item_before Multi second w k is = is

module _ (plan : PlanParts) (valid : IsValidPlan plan) (number : ℕ) (scheme : Scheme) (stands : slice_get plan.schemes number ≡ Some scheme)
    (one other : ℕ) (one_in : Contains scheme.members one) (other_in : Contains scheme.members other) (apart : ¬ (other ≡ one)) where
  -- where a member's needs for window w are given, each partner has completed the window before
  pub partner_before : (look : Look Post) (w k : ℕ) → IsInOrder look → AreNeedsGiven (wave_frame plan) look one w k → IsSome (look other (Completed (w - 1)))
  partner_before look w k order given =
      item_before plan look order other scheme.kind (is_second scheme one) w k
      (given (record { owner = other; item = asked scheme.kind (is_second scheme one) w k })
      (asks_of plan valid one w k number scheme other stands one_in other_in apart))

-- who has not completed window w has no partner that has completed the one after it
pub never_ahead : (plan : PlanParts) (valid : IsValidPlan plan) (number : ℕ) (scheme : Scheme) → slice_get plan.schemes number ≡ Some scheme → (one other : ℕ) → Contains scheme.members one
    → Contains scheme.members other → ¬ (other ≡ one) → other < length plan.parts → (sides : WaveState) → IsTold (wave_frame plan) sides → (w : ℕ)
    → IsSome (look_in sides other (Completed (suc w))) → IsSome (look_in sides one (Completed w))
never_ahead plan valid number scheme stands one other one_in other_in apart below sides told w is =
    let served = (told.aligned.each other below).served w is in
    let before = partner_before plan valid number scheme stands other one other_in one_in (λ same. apart (sym same)) (look_in sides) (suc w) served.0 told.well.in_order served.1 in
    let last : suc w - 1 ≡ w = omega arith in
    subst (λ (v : ℕ). IsSome (look_in sides one (Completed v))) last before
