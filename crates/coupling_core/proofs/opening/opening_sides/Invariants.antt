use Rattle.std.proofs.Common.{◌≡◌, replicate}
use Rattle.coupling_core.specs.Opened.{opening_standing}
use Rattle.coupling_core.proofs.opening.opening_sides.Given as goal

-- one for each so far
abbrev pub invariant-loop-p : goal.invariant-loop-p
invariant-loop-p l = l.standings.items ≡ replicate l._p opening_standing
