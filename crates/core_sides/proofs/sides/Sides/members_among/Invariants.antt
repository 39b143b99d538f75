use Rattle.std.proofs.Common.{◌≡◌, map, drop}
use Rattle.cpl_plan.specs.declared.words.Item.TheVariants.{Posted}
use Rattle.core_sides.specs.Searched.{searched, and_further}
use Rattle.core_sides.specs.KeptSides.{kept_ended, kept_given}
use Rattle.core_sides.proofs.sides.Sides.members_among.Given as goal

-- what is found so far, and then among the rest, is what is found among all; the item is the posts'
abbrev pub invariant-loop-member : goal.invariant-loop-member
invariant-loop-member l =
    (l.item ≡ Posted l.w l.k)
    × (and_further l.search (searched (kept_ended l.self) (map (λ member. (member, kept_given l.self member (Posted l.w l.k))) (drop l.member-index l.members)))
    ≡ searched (kept_ended l.self) (map (λ member. (member, kept_given l.self member (Posted l.w l.k))) l.members))
