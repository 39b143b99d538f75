use Rattle.std.proofs.Common.{◌≡◌, replicate, None}
use Rattle.coupling_core.proofs.opening.no_stores.Given as goal

-- one for each so far
abbrev pub invariant-loop-x : goal.invariant-loop-x
invariant-loop-x l = l.stores.items ≡ replicate l._x None
