use Rattle.core_stores.proofs.Changes.{AreChanged}
use Rattle.core_stores.proofs.Posted.{IsAcceptedOf}
use Rattle.core_stores.proofs.posts.accept_all.Given as goal

-- so far the newest posts are accepted
abbrev pub invariant-loop-x : goal.invariant-loop-x
invariant-loop-x l = AreChanged l.plan.exchanges l.p (IsAcceptedOf l.plan l.p l.w) l.x l.fn.stores l.stores
