use Rattle.std.proofs.Common.{ap, sym, ◌∙◌, subst, List, ℕ, map, Vec, Global}
use Rattle.plan_order.specs.Groups.{AreGroups}
use Rattle.plan_order.proofs.GroupTestLemmas.{groups_from_test, pairs_from_test}
use Rattle.plan_order.proofs.order_tests.order_of.Goals as goal

pub node_order-requires-clause-groups : goal.node_order-requires-clause-groups
node_order-requires-clause-groups c =
    subst (λ (groups : List (List ℕ)). AreGroups c.args.parts groups)
    (sym c.in_ok-lists.ensures ∙ ap (λ (lists : List (Vec ℕ Global)). map (λ list. list.items) lists) (sym c.deref.ensures.value))
    (groups_from_test c.args.parts (map (λ group. group.now) c.args.groups.now) c.requires.groups)

pub node_order-requires-clause-befores : goal.node_order-requires-clause-befores
node_order-requires-clause-befores c = pairs_from_test c.args.parts c.args.befores.now c.requires.pairs
