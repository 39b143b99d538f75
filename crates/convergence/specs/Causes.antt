-- When each verdict comes, in other words. The project's own.
use Rattle.std.specs.Prelude.{ℕ, ◌≤◌, ◌<◌, ◌⊎◌, List, length, All, Any, IsTrue, IsFalse}
use Rattle.std.specs.List.{HoldsAt, AllWithin}
use Rattle.convergence.specs.declared.measured.Measured.{Measured}
use Rattle.convergence.specs.Holds.{holds}

-- a measure that suffices, and holds
pub record IsEnough (at : Measured) : Type 0 where
  pub suffices : IsTrue at.measure.suffices
  pub met : IsTrue (holds at)

-- iteration k is not one too early, and one measure that suffices holds, or all do
pub record HasConverged (all : List Measured) (k min : ℕ) : Type 0 where
  pub often_enough : min ≤ k
  pub met : Any IsEnough all ⊎ All (λ at. IsTrue (holds at)) all

-- a strict measure that does not hold
pub record Fails (at : Measured) : Type 0 where
  pub strict : IsTrue at.measure.strict
  pub missed : IsFalse (holds at)

-- where the measure is strict, it holds
abbrev pub Passes : Measured → Type 0
Passes at = IsTrue at.measure.strict → IsTrue (holds at)

-- the measure at this place, from 0, fails, and none before it does
pub record IsFirstFailing (all : List Measured) (place : ℕ) : Type 0 where
  pub inside : place < length all
  pub failing : HoldsAt Fails all place
  pub first : AllWithin Passes all 0 place
