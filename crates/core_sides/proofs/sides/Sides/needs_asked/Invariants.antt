use Rattle.std.proofs.Common.{◌≡◌, map, drop}
use Rattle.cpl_plan.specs.Needs.{needs}
use Rattle.core_sides.specs.Searched.{searched, and_further}
use Rattle.core_sides.specs.KeptSides.{kept_ended, kept_given}
use Rattle.core_sides.proofs.sides.Sides.needs_asked.Given as goal

-- what is found so far, and then among the rest, is what is found among all
abbrev pub invariant-loop-i : goal.invariant-loop-i
invariant-loop-i l =
    and_further l.search (searched (kept_ended l.self) (map (λ need. (need.owner, kept_given l.self need.owner need.item)) (drop l.i (needs l.plan l.p l.w l.k))))
    ≡ searched (kept_ended l.self) (map (λ need. (need.owner, kept_given l.self need.owner need.item)) (needs l.plan l.p l.w l.k))
