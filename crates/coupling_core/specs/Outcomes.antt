-- What becomes of an event, or of its cut. The project's own.
use Rattle.core_sides.specs.declared.event.Event.{Event}
use Rattle.core_sides.specs.declared.event.Event.TheVariants.{PostMesh, TakeMeshes, Post, Judge, Take, Stop, End}
use Rattle.core_sides.specs.declared.event.CoreErr.{CoreErr}
use Rattle.core_sides.specs.declared.event.CoreErr.TheVariants.{NotEnabled, Memory}

-- want of memory is free
abbrev pub UnlessMemory : CoreErr → Type 0 → Type 0
UnlessMemory Memory Says = Unit {0}
UnlessMemory (NotEnabled owner window iteration) Says = Says

-- a Stop or an End is never refused
abbrev pub IsStopOrEnd : Event → Type 0
IsStopOrEnd (PostMesh meshes) = ⊥
IsStopOrEnd TakeMeshes = ⊥
IsStopOrEnd (Post waves) = ⊥
IsStopOrEnd Judge = ⊥
IsStopOrEnd Take = ⊥
IsStopOrEnd (Stop cause) = Unit {0}
IsStopOrEnd End = Unit {0}
