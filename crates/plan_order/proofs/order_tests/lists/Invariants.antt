use Rattle.std.proofs.Common.{◌≡◌, map, take}
use Rattle.plan_order.proofs.order_tests.lists.Given as goal

abbrev pub invariant-loop-group : goal.invariant-loop-group
invariant-loop-group l = map (λ list. list.items) l.lists.items ≡ map (λ group. group.now) (take l.group-index l.groups)
