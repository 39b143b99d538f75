-- What the stores keep is what the senders of the exchanges have given. The project's own.
use Rattle.std.specs.Prelude.{◌≡◌, ℕ, List, [], map, length, slice_get, Option, Some, None}
use Rattle.waveform.specs.declared.sample.Sample.{Sample}
use Rattle.cpl_plan.specs.declared.parts.PlanParts.{PlanParts}
use Rattle.cpl_plan.specs.declared.parts.Exchange.{Exchange}
use Rattle.coupled_loop.specs.Given.{Gift}
use Rattle.sample_store.specs.Kept.{Kept as StoreKept, IsKept as IsStoreKept}
use Rattle.sample_store.specs.StandsFor.{StandsFor as StoreStandsFor}
use Rattle.wave_coupling.specs.Posts.{Post}
use Rattle.group_course.specs.StoresTell.{gift_of}
use Rattle.core_sides.specs.CoreWords.{WaveState}

-- what a sender has given of an exchange
abbrev pub gifts_of : PlanParts → Exchange → (x : ℕ) → List (Gift Post) → List (Gift (List Sample))
gifts_of plan e x given = map (gift_of plan e x) given

-- there is a store as soon as something was given
abbrev pub IsStoreOf : List (Gift (List Sample)) → Option StoreKept → Type 0
IsStoreOf given None = given ≡ []
IsStoreOf given (Some store) = StoreStandsFor given store

pub record AreStores (plan : PlanParts) (stores : List (Option StoreKept)) (sides : WaveState) : Type 0 where
  pub count : length stores ≡ length plan.exchanges
  pub each : (x : ℕ) (e : Exchange) (store : Option StoreKept) → slice_get plan.exchanges x ≡ Some e → slice_get stores x ≡ Some store
      → IsStoreOf (gifts_of plan e x (sides e.from).given) store

-- each store has what has to be there
abbrev pub AreKept : List (Option StoreKept) → Type 0
AreKept stores = (x : ℕ) (store : StoreKept) → slice_get stores x ≡ Some (Some store) → IsStoreKept store
