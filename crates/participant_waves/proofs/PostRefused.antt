-- A wave that is not posted is why nothing is posted; a wave that is not taken why nothing is taken.
use Rattle.std.proofs.Common.{◌≡◌, ℕ, ◌<◌, List, length, map, get_or, Option, Some, Result}
use Rattle.cpl_plan.specs.declared.words.Fault.{Fault}
use Rattle.wave_coupling.specs.Mapped.{all_or_first}
use Rattle.participant_waves.specs.declared.no_waves.NoPost.{NoPost}
use Rattle.participant_waves.specs.declared.no_waves.NoPost.TheVariants.{Overflow as NoPostByFault, Memory as NoPostByMemory}
use Rattle.participant_waves.specs.declared.no_waves.NoTake.{NoTake}
use Rattle.participant_waves.specs.declared.no_waves.NoTake.TheVariants.{Overflow as NoTakeByFault, Memory as NoTakeByMemory}
use Rattle.participant_waves.specs.Refusals.{IsNoPost, IsNoTake}
use Rattle.participant_waves.proofs.Made.{GoesOn, refused}

module _ {X Y : Type 0} (f : X → Result Y (Option Fault)) (xs : List X) (done : List Y) (i : ℕ) (x : X) (inside : i < length xs) (at : x ≡ get_or xs i x) (before : GoesOn f xs done i) where
  pub not_posted : (why : NoPost) → IsNoPost (f x) why → IsNoPost (all_or_first (map f xs)) why
  not_posted (NoPostByFault fault) is = refused f xs done i x (Some fault) inside at is before
  not_posted NoPostByMemory is = tt

  pub not_taken : (why : NoTake) → IsNoTake (f x) why → IsNoTake (all_or_first (map f xs)) why
  not_taken (NoTakeByFault fault) is = refused f xs done i x (Some fault) inside at is before
  not_taken NoTakeByMemory is = tt
