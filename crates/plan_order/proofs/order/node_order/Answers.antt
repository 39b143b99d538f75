use Rattle.std.proofs.Common.{◌≡◌, ℕ, ◌<◌, length, map, get_or, List, All, Contains, ap, sym, subst, ◌∙◌, arith, Vec, Global, Option, Some, MatchOption}
use Rattle.std.proofs.lemmas.List.Elements.{All-contains, Contains-get_or}
use Rattle.plan_order.specs.declared.node.Node.{Node}
use Rattle.plan_order.specs.declared.node.Node.TheVariants.{Single}
use Rattle.plan_order.specs.NodeOrder.{IsNodeOrder}
use Rattle.plan_order.specs.Cycle.{HasCycle, ClosesCycle}
use Rattle.plan_order.specs.Groups.{members_of}
use Rattle.plan_order.specs.Edges.{alone, edges_of}
use Rattle.plan_order.specs.Heads.{IsFilled, head_of}
use Rattle.plan_order.proofs.Orders.{no_cycle, only_nodes}
use Rattle.plan_order.proofs.Placing.{alone_node}
use Rattle.plan_order.proofs.Named.{names_below, ends_named, order_up, closes_up}
use Rattle.plan_order.proofs.NamedGroups.{filled, are_named}
use Rattle.plan_order.proofs.order.node_order.Goals as goal

pub heads_of-requires : goal.heads_of-requires
heads_of-requires c = λ k d within.
    let same = c.deref.ensures.value in
    let below : k < c.args.parts = omega (arith, within, ap length same, c.in_ok-nodes.ensures.count) in
    subst (λ (xs : List Node). IsFilled (map (λ group. group.items) c.args.groups.now) (get_or xs k d)) (sym same)
    (filled c.args.parts (map (λ group. group.items) c.args.groups.now) (get_or c.in_ok-nodes.nodes.items k d) k (c.in_ok-nodes.ensures.members k below d))

-- the edges lead from names to names
edges_named : (heads ids : List ℕ) (edges es pairs : List (ℕ × ℕ)) → ids ≡ heads → es ≡ edges → edges ≡ edges_of heads pairs
    → All (λ edge. Contains heads edge.0 × Contains heads edge.1) (edges_of heads pairs) → All (λ edge. Contains ids edge.0 × Contains ids edge.1) es
edges_named heads ids edges es pairs same same' are all =
    subst (λ (xs : List ℕ). All (λ edge. Contains xs edge.0 × Contains xs edge.1) es) (sym same)
    (subst (λ (ys : List (ℕ × ℕ)). All (λ edge. Contains heads edge.0 × Contains heads edge.1) ys) (sym (same' ∙ are)) all)

-- the order of the names
order_told : (heads ids : List ℕ) (edges es pairs : List (ℕ × ℕ)) (placed : Option (Vec ℕ Global)) (order : Vec ℕ Global)
    → ids ≡ heads → es ≡ edges → edges ≡ edges_of heads pairs → placed ≡ Some order
    → MatchOption placed (HasCycle (alone ids) es) (λ o. IsNodeOrder (alone ids) es o.items) → IsNodeOrder (alone heads) (edges_of heads pairs) order.items
order_told heads ids edges es pairs placed order same same' are is found =
    let told : IsNodeOrder (alone ids) es order.items =
    subst (λ (p : Option (Vec ℕ Global)). MatchOption p (HasCycle (alone ids) es) (λ o. IsNodeOrder (alone ids) es o.items)) is found in
    subst (λ (xs : List ℕ). IsNodeOrder (alone xs) (edges_of heads pairs) order.items) same
    (subst (λ (ys : List (ℕ × ℕ)). IsNodeOrder (alone ids) ys order.items) (same' ∙ are) told)

pub place-requires-clause-ids : goal.place-requires-clause-ids
place-requires-clause-ids c =
    let named = are_named c.args.parts (map (λ group. group.items) c.args.groups.now) c.in_ok-nodes.nodes.items c.in_ok-heads.heads.items c.requires.groups
    c.in_ok-nodes.ensures.count c.in_ok-nodes.ensures.members (c.in_ok-heads.ensures ∙ ap (map (head_of (map (λ group. group.items) c.args.groups.now))) c.deref.ensures.value) in
    subst (λ (xs : List ℕ). All (λ id. id < length xs) xs) (sym c.deref-3.ensures.value) (names_below (members_of c.args.parts (map (λ group. group.items) c.args.groups.now)) c.args.parts (λ p. get_or c.in_ok-nodes.nodes.items p (Single 0)) c.in_ok-heads.heads.items named)

pub place-requires-clause-edges : goal.place-requires-clause-edges
place-requires-clause-edges c =
    let named = are_named c.args.parts (map (λ group. group.items) c.args.groups.now) c.in_ok-nodes.nodes.items c.in_ok-heads.heads.items c.requires.groups
    c.in_ok-nodes.ensures.count c.in_ok-nodes.ensures.members (c.in_ok-heads.ensures ∙ ap (map (head_of (map (λ group. group.items) c.args.groups.now))) c.deref.ensures.value) in
    edges_named c.in_ok-heads.heads.items c.deref-3.result.now c.in_ok-edges.edges.items c.deref-4.result.now c.args.befores.now c.deref-3.ensures.value c.deref-4.ensures.value
    (c.in_ok-edges.ensures ∙ ap (λ heads. edges_of heads c.args.befores.now) c.deref-2.ensures.value) (ends_named (members_of c.args.parts (map (λ group. group.items) c.args.groups.now)) c.args.parts (λ p. get_or c.in_ok-nodes.nodes.items p (Single 0)) c.in_ok-heads.heads.items named c.args.befores.now c.requires.befores)

pub nodes_at-requires : goal.nodes_at-requires
nodes_at-requires c = λ k d within.
    let named = are_named c.args.parts (map (λ group. group.items) c.args.groups.now) c.in_ok-nodes.nodes.items c.in_ok-heads.heads.items c.requires.groups
    c.in_ok-nodes.ensures.count c.in_ok-nodes.ensures.members (c.in_ok-heads.ensures ∙ ap (map (head_of (map (λ group. group.items) c.args.groups.now))) c.deref.ensures.value) in
    let order = order_told c.in_ok-heads.heads.items c.deref-3.result.now c.in_ok-edges.edges.items c.deref-4.result.now c.args.befores.now c.in_ok-order.field-0 c.in-Some.order
    c.deref-3.ensures.value c.deref-4.ensures.value (c.in_ok-edges.ensures ∙ ap (λ heads. edges_of heads c.args.befores.now) c.deref-2.ensures.value) c.in-Some.is c.in_ok-order.ensures in
    let there : k < length c.in-Some.order.items = omega (arith, within, ap length c.deref-in-Some-2.ensures.value) in
    let id : ℕ = get_or c.in-Some.order.items k d in
    let is_node = only_nodes (alone c.in_ok-heads.heads.items) (edges_of c.in_ok-heads.heads.items c.args.befores.now) c.in-Some.order.items order id (Contains-get_or c.in-Some.order.items k d there) in
    let below : id < length c.in_ok-heads.heads.items = All-contains (λ i. i < length c.in_ok-heads.heads.items) c.in_ok-heads.heads.items id (names_below (members_of c.args.parts (map (λ group. group.items) c.args.groups.now)) c.args.parts (λ p. get_or c.in_ok-nodes.nodes.items p (Single 0)) c.in_ok-heads.heads.items named) (alone_node c.in_ok-heads.heads.items id is_node) in
    let same : get_or c.deref-in-Some-2.result.now k d ≡ id = ap (λ xs. get_or xs k d) c.deref-in-Some-2.ensures.value in
    omega (arith, same, below, named.count, c.in_ok-nodes.ensures.count, ap length c.deref-in-Some.ensures.value)

pub returns-in-Some-clause-order : goal.returns-in-Some-clause-order
returns-in-Some-clause-order c =
    let named = are_named c.args.parts (map (λ group. group.items) c.args.groups.now) c.in_ok-nodes.nodes.items c.in_ok-heads.heads.items c.requires.groups
    c.in_ok-nodes.ensures.count c.in_ok-nodes.ensures.members (c.in_ok-heads.ensures ∙ ap (map (head_of (map (λ group. group.items) c.args.groups.now))) c.deref.ensures.value) in
    let order = order_told c.in_ok-heads.heads.items c.deref-3.result.now c.in_ok-edges.edges.items c.deref-4.result.now c.args.befores.now c.in_ok-order.field-0 c.in-Some.order
    c.deref-3.ensures.value c.deref-4.ensures.value (c.in_ok-edges.ensures ∙ ap (λ heads. edges_of heads c.args.befores.now) c.deref-2.ensures.value) c.in-Some.is c.in_ok-order.ensures in
    let up : IsNodeOrder (members_of c.args.parts (map (λ group. group.items) c.args.groups.now)) c.args.befores.now (map (λ p. get_or c.in_ok-nodes.nodes.items p (Single 0)) c.in-Some.order.items) =
    order_up (members_of c.args.parts (map (λ group. group.items) c.args.groups.now)) c.args.parts (λ p. get_or c.in_ok-nodes.nodes.items p (Single 0)) c.in_ok-heads.heads.items named c.args.befores.now c.requires.befores c.in-Some.order.items order in
    let is : c.in_ok-nodes_at-in-Some.field-0.items ≡ map (λ p. get_or c.in_ok-nodes.nodes.items p (Single 0)) c.in-Some.order.items =
    c.in_ok-nodes_at-in-Some.ensures
    ∙ (ap (λ nodes. map (λ p. get_or nodes p (Single 0)) c.deref-in-Some-2.result.now) c.deref-in-Some.ensures.value
    ∙ ap (map (λ p. get_or c.in_ok-nodes.nodes.items p (Single 0))) c.deref-in-Some-2.ensures.value) in
    subst (λ (xs : List Node). IsNodeOrder (members_of c.args.parts (map (λ group. group.items) c.args.groups.now)) c.args.befores.now xs) (sym is) up

pub returns-in-Some-clause-no_cycle : goal.returns-in-Some-clause-no_cycle
returns-in-Some-clause-no_cycle c =
    let named = are_named c.args.parts (map (λ group. group.items) c.args.groups.now) c.in_ok-nodes.nodes.items c.in_ok-heads.heads.items c.requires.groups
    c.in_ok-nodes.ensures.count c.in_ok-nodes.ensures.members (c.in_ok-heads.ensures ∙ ap (map (head_of (map (λ group. group.items) c.args.groups.now))) c.deref.ensures.value) in
    let order = order_told c.in_ok-heads.heads.items c.deref-3.result.now c.in_ok-edges.edges.items c.deref-4.result.now c.args.befores.now c.in_ok-order.field-0 c.in-Some.order
    c.deref-3.ensures.value c.deref-4.ensures.value (c.in_ok-edges.ensures ∙ ap (λ heads. edges_of heads c.args.befores.now) c.deref-2.ensures.value) c.in-Some.is c.in_ok-order.ensures in
    no_cycle (members_of c.args.parts (map (λ group. group.items) c.args.groups.now)) c.args.befores.now (map (λ p. get_or c.in_ok-nodes.nodes.items p (Single 0)) c.in-Some.order.items) (order_up (members_of c.args.parts (map (λ group. group.items) c.args.groups.now)) c.args.parts (λ p. get_or c.in_ok-nodes.nodes.items p (Single 0)) c.in_ok-heads.heads.items named c.args.befores.now c.requires.befores c.in-Some.order.items order)

pub closing_edge-requires-clause-ids : goal.closing_edge-requires-clause-ids
closing_edge-requires-clause-ids c =
    let named = are_named c.args.parts (map (λ group. group.items) c.args.groups.now) c.in_ok-nodes.nodes.items c.in_ok-heads.heads.items c.requires.groups
    c.in_ok-nodes.ensures.count c.in_ok-nodes.ensures.members (c.in_ok-heads.ensures ∙ ap (map (head_of (map (λ group. group.items) c.args.groups.now))) c.deref.ensures.value) in
    subst (λ (xs : List ℕ). All (λ id. id < length xs) xs) (sym c.deref-in-None.ensures.value) (names_below (members_of c.args.parts (map (λ group. group.items) c.args.groups.now)) c.args.parts (λ p. get_or c.in_ok-nodes.nodes.items p (Single 0)) c.in_ok-heads.heads.items named)

pub closing_edge-requires-clause-edges : goal.closing_edge-requires-clause-edges
closing_edge-requires-clause-edges c =
    let named = are_named c.args.parts (map (λ group. group.items) c.args.groups.now) c.in_ok-nodes.nodes.items c.in_ok-heads.heads.items c.requires.groups
    c.in_ok-nodes.ensures.count c.in_ok-nodes.ensures.members (c.in_ok-heads.ensures ∙ ap (map (head_of (map (λ group. group.items) c.args.groups.now))) c.deref.ensures.value) in
    edges_named c.in_ok-heads.heads.items c.deref-in-None.result.now c.in_ok-edges.edges.items c.deref-in-None-2.result.now c.args.befores.now c.deref-in-None.ensures.value c.deref-in-None-2.ensures.value
    (c.in_ok-edges.ensures ∙ ap (λ heads. edges_of heads c.args.befores.now) c.deref-2.ensures.value) (ends_named (members_of c.args.parts (map (λ group. group.items) c.args.groups.now)) c.args.parts (λ p. get_or c.in_ok-nodes.nodes.items p (Single 0)) c.in_ok-heads.heads.items named c.args.befores.now c.requires.befores)

pub returns-clause-cycle : goal.returns-clause-cycle
returns-clause-cycle c = λ at is.
    let named = are_named c.args.parts (map (λ group. group.items) c.args.groups.now) c.in_ok-nodes.nodes.items c.in_ok-heads.heads.items c.requires.groups
    c.in_ok-nodes.ensures.count c.in_ok-nodes.ensures.members (c.in_ok-heads.ensures ∙ ap (map (head_of (map (λ group. group.items) c.args.groups.now))) c.deref.ensures.value) in
    let same : c.in_ok-closing_edge-in-None.field-0 ≡ at = cc in
    let closes : ClosesCycle (alone c.in_ok-heads.heads.items) (edges_of c.in_ok-heads.heads.items c.args.befores.now) c.in_ok-closing_edge-in-None.field-0 =
    subst (λ (xs : List ℕ). ClosesCycle (alone xs) (edges_of c.in_ok-heads.heads.items c.args.befores.now) c.in_ok-closing_edge-in-None.field-0) c.deref-in-None.ensures.value
    (subst (λ (ys : List (ℕ × ℕ)). ClosesCycle (alone c.deref-in-None.result.now) ys c.in_ok-closing_edge-in-None.field-0) (c.deref-in-None-2.ensures.value ∙ (c.in_ok-edges.ensures ∙ ap (λ heads. edges_of heads c.args.befores.now) c.deref-2.ensures.value)) c.in_ok-closing_edge-in-None.ensures) in
    subst (λ (n : ℕ). ClosesCycle (members_of c.args.parts (map (λ group. group.items) c.args.groups.now)) c.args.befores.now n) same (closes_up (members_of c.args.parts (map (λ group. group.items) c.args.groups.now)) c.args.parts (λ p. get_or c.in_ok-nodes.nodes.items p (Single 0)) c.in_ok-heads.heads.items named c.args.befores.now c.requires.befores c.in_ok-closing_edge-in-None.field-0 closes)
