use Rattle.std.specs.Vec.Iter.{into_iter_items, into_iter_len}
use Rattle.core_stores.proofs.Posted.{IsPutOf}
use Rattle.core_stores.proofs.SoFar.{AreSoFar}
use Rattle.core_stores.proofs.posts.put_waves.Given as goal

-- so far the waves are put, and those that are left are of the exchanges that are left
abbrev pub invariant-loop-x : goal.invariant-loop-x
invariant-loop-x l = AreSoFar l.plan l.p (IsPutOf l.plan l.p l.w l.k l.fn.waves.items) l.fn.stores l.fn.waves.items l.x l.stores (into_iter_items l.rest) (into_iter_len l.rest)
