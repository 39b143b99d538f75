use Rattle.std.proofs.Common.{◌≡◌, take}
use Rattle.call_parts.proofs.meshes.copies_of.Given as goal

abbrev pub invariant-loop-mesh : goal.invariant-loop-mesh
invariant-loop-mesh l = l.copies.items ≡ take l.mesh-index l.meshes
