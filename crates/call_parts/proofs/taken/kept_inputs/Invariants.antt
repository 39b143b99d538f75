use Rattle.std.specs.Vec.Iter.{into_iter_items, into_iter_len}
use Rattle.call_parts.proofs.JoinKept.{AreKept}
use Rattle.call_parts.proofs.taken.kept_inputs.Given as goal

-- what is kept so far, before what is made of the rest
abbrev pub invariant-loop-i : goal.invariant-loop-i
invariant-loop-i l = AreKept l.inputs l.fn.waves.items l.i l.kept.items (into_iter_items l.rest) (into_iter_len l.rest)
