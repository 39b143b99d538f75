-- What the store of an exchange holds for its reader's turn, by the kind of the exchange. After the coupling documentation's serial and parallel schemes and its acceleration; the project's own in form.
use Rattle.std.specs.Prelude.{◌≡◌, ℕ, ◌-◌, ◌≤◌, List, Option, Some, slice_get}
use Rattle.cpl_plan.specs.declared.parts.Kind.{Kind}
use Rattle.cpl_plan.specs.declared.parts.Kind.TheVariants.{Lag, Fresh, FreshIter, Iterated}
use Rattle.sample_store.specs.declared.progress.Progress.{Progress}
use Rattle.sample_store.specs.Held.{HoldsEndBefore, HoldsIterate, HoldsAccepted}
use Rattle.sample_store.specs.Kept.{Kept}

-- what follows the end of the window before: nothing, what was accepted of this window, or what was posted in this iteration or in the one before it
abbrev pub HoldsSamples : Kind → Progress → (w k : ℕ) → Type 0
HoldsSamples Lag progress w k = Unit {0}
HoldsSamples Fresh progress w k = HoldsAccepted progress w
HoldsSamples FreshIter progress w k = HoldsIterate progress w k
HoldsSamples Iterated progress w k = 2 ≤ k → HoldsIterate progress w (k - 1)

pub record HoldsFor (kind : Kind) (progress : Progress) (w k : ℕ) : Type 0 where
  pub before : HoldsEndBefore progress w
  pub samples : HoldsSamples kind progress w k

-- exchange x has a store, which holds them
pub record IsHeld (stores : List (Option Kept)) (x : ℕ) (kind : Kind) (w k : ℕ) : Type 0 where
  pub store : Kept
  pub there : slice_get stores x ≡ Some (Some store)
  pub holds : HoldsFor kind store.progress w k
