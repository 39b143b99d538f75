use Rattle.std.proofs.Common.{◌≡◌, take, filter_map}
use Rattle.core_sides.specs.CoreWords.{WaveState}
use Rattle.core_sides.specs.PostedMeshes.{mesh_posted}
use Rattle.core_sides.specs.SidesStand.{AreStanding}
use Rattle.core_takes.proofs.meshes.received_meshes.Given as goal

abbrev pub invariant-loop-i : goal.invariant-loop-i
invariant-loop-i l =
    (state : WaveState) → AreStanding l.plan l.sides state → l.meshes.items ≡ filter_map (mesh_posted l.plan state) (take l.i l.numbers)
