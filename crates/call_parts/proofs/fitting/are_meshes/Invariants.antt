use Rattle.event_fits.proofs.Provided.{AreBefore}
use Rattle.call_parts.proofs.fitting.are_meshes.Given as goal

-- so far each mesh is of the plan
abbrev pub invariant-loop-i : goal.invariant-loop-i
invariant-loop-i l = AreBefore l.plan l.numbers l.meshes l.i
