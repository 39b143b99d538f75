-- Why there is nothing to post, or nothing to read from: a mapped value is out of range, and that is told where it is so first; want of memory is free. The project's own.
use Rattle.std.specs.Prelude.{◌≡◌, Option, Some, Result, Err, ⊤}
use Rattle.cpl_plan.specs.declared.words.Fault.{Fault}
use Rattle.participant_waves.specs.declared.no_waves.NoPost.{NoPost}
use Rattle.participant_waves.specs.declared.no_waves.NoPost.TheVariants.{Overflow as NoPostByFault, Memory as NoPostByMemory}
use Rattle.participant_waves.specs.declared.no_waves.NoTake.{NoTake}
use Rattle.participant_waves.specs.declared.no_waves.NoTake.TheVariants.{Overflow as NoTakeByFault, Memory as NoTakeByMemory}

abbrev pub IsNoPost : {X : Type 0} → Result X (Option Fault) → NoPost → Type 0
IsNoPost meant (NoPostByFault fault) = meant ≡ Err (Some fault)
IsNoPost meant NoPostByMemory = ⊤

abbrev pub IsNoTake : {X : Type 0} → Result X (Option Fault) → NoTake → Type 0
IsNoTake meant (NoTakeByFault fault) = meant ≡ Err (Some fault)
IsNoTake meant NoTakeByMemory = ⊤
