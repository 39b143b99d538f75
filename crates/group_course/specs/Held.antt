-- What the stores of a scheme hold when an iteration is judged. The project's own.
use Rattle.std.specs.Prelude.{◌≡◌, ℕ, ◌-◌, ◌≤◌, List, Option, Some, slice_get}
use Rattle.cpl_plan.specs.declared.parts.PlanParts.{PlanParts}
use Rattle.cpl_plan.specs.declared.parts.Exchange.{Exchange}
use Rattle.sample_store.specs.declared.progress.Progress.{Progress}
use Rattle.sample_store.specs.Held.{HoldsEndBefore, HoldsIterate}
use Rattle.sample_store.specs.Kept.{Kept}

-- the end of the window before w, and the posts of iteration k and of the one before it
pub record HoldsIteration (progress : Progress) (w k : ℕ) : Type 0 where
  pub before : HoldsEndBefore progress w
  pub newest : HoldsIterate progress w k
  pub last : 2 ≤ k → HoldsIterate progress w (k - 1)

-- exchange x has a store, which holds them
pub record IsHeld (stores : List (Option Kept)) (x w k : ℕ) : Type 0 where
  pub store : Kept
  pub there : slice_get stores x ≡ Some (Some store)
  pub holds : HoldsIteration store.progress w k

-- each exchange of a scheme has one
abbrev pub AreHeld : PlanParts → (scheme w k : ℕ) → List (Option Kept) → Type 0
AreHeld plan scheme w k stores = (x : ℕ) (e : Exchange) → slice_get plan.exchanges x ≡ Some e → e.scheme ≡ scheme → IsHeld stores x w k
