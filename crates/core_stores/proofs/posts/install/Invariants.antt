use Rattle.std.specs.Vec.Iter.{into_iter_items, into_iter_len}
use Rattle.core_stores.proofs.Posted.{IsInstalled}
use Rattle.core_stores.proofs.SoFar.{AreSoFar}
use Rattle.core_stores.proofs.posts.install.Given as goal

-- so far the stores are in their places, and those that are left are of the exchanges that are left
abbrev pub invariant-loop-x : goal.invariant-loop-x
invariant-loop-x l = AreSoFar l.plan l.p (IsInstalled l.plan l.p l.fn.opened.items) l.fn.stores l.fn.opened.items l.x l.stores (into_iter_items l.rest) (into_iter_len l.rest)
