use Rattle.std.proofs.Common.{◌≡◌, ℕ, ◌<◌, Contains, length, map, take}
use Rattle.std.specs.List.{HoldsAt}
use Rattle.plan_order.specs.Groups.{members_of}
use Rattle.plan_order.proofs.order.heads.nodes_of.Given as goal

abbrev pub invariant-loop-number : goal.invariant-loop-number
invariant-loop-number l =
    (length l.nodes.items ≡ l.parts)
    × ((part : ℕ) → part < l.parts
    → HoldsAt (λ node. Contains (members_of l.parts (take l.number (map (λ group. group.items) l.groups)) node) part) l.nodes.items part)
