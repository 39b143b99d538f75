use Rattle.std.proofs.Common.{◌≡◌, ℕ, ◌+◌, ◌<◌, length, map, take, get_or, List, [], All, Contains, ap, sym, subst, ◌∙◌, arith, Vec, Global}
use Rattle.std.specs.Vec.{with_items}
use Rattle.std.proofs.lemmas.List.{with_items_is, length-map, get_or-map, take_all}
use Rattle.plan_order.specs.declared.node.Node.{Node}
use Rattle.plan_order.specs.Groups.{members_of}
use Rattle.plan_order.proofs.GroupNodes.{few_groups, member_more}
use Rattle.plan_order.proofs.order.heads.nodes_of.Goals as goal

pub overflow_cast-number : goal.overflow_cast-number
overflow_cast-number c =
    let few = few_groups c.args.parts (map (λ group. group.items) c.args.groups.now) c.requires in
    omega (arith, few, length-map c.args.groups.now (λ group. group.items), c.loop-number-test.true, c.ranges.parts.fits)

-- the group at its place
group_at : (groups : List (Vec ℕ Global)) (number : ℕ) (group : Vec ℕ Global) (members : List ℕ) → number < length groups → group ≡ get_or groups number group
    → members ≡ group.items → members ≡ get_or (map (λ (g : Vec ℕ Global). g.items) groups) number []
group_at groups number group members within at is =
    is ∙ (ap (λ (g : Vec ℕ Global). g.items) at ∙ sym (get_or-map (λ (g : Vec ℕ Global). g.items) groups number group [] within))

pub join-requires : goal.join-requires
join-requires c = λ k d within.
    let group = group_at c.args.groups.now c.loop-number.number c.index-groups-number.result c.deref.result.now c.loop-number-test.true c.index-groups-number.is c.deref.ensures.value in
    let there : c.loop-number.number < length (map (λ (g : Vec ℕ Global). g.items) c.args.groups.now) = omega (arith, length-map c.args.groups.now (λ (g : Vec ℕ Global). g.items), c.loop-number-test.true) in
    let all : All (λ part. part < c.args.parts) c.deref.result.now =
    subst (λ (xs : List ℕ). All (λ part. part < c.args.parts) xs) (sym group) (c.requires.in_range c.loop-number.number [] there) in
    omega (arith, all k d within, c.loop-number.invariant.0, ap length c.deref_mut.ensures.value)

pub loop-number-preserved : goal.loop-number-preserved
loop-number-preserved c =
    let group = group_at c.args.groups.now c.loop-number.number c.index-groups-number.result c.deref.result.now c.loop-number-test.true c.index-groups-number.is c.deref.ensures.value in
    let there : c.loop-number.number < length (map (λ (g : Vec ℕ Global). g.items) c.args.groups.now) = omega (arith, length-map c.args.groups.now (λ (g : Vec ℕ Global). g.items), c.loop-number-test.true) in
    let wrote : (with_items c.loop-number.nodes c.join.new.nodes).items ≡ c.join.new.nodes =
    with_items_is c.loop-number.nodes c.join.new.nodes (omega (arith, c.join.auto.nodes, c.deref_mut.ensures.len)) in (
      ap length wrote ∙ omega (arith, c.join.auto.nodes, ap length c.deref_mut.ensures.value, c.loop-number.invariant.0),
      λ part below d.
          subst (λ (xs : List Node). Contains (members_of c.args.parts (take (c.loop-number.number + 1) (map (λ (g : Vec ℕ Global). g.items) c.args.groups.now)) (get_or xs part d)) part) (sym wrote)
          (member_more c.args.parts (map (λ (g : Vec ℕ Global). g.items) c.args.groups.now) c.loop-number.number part
          (get_or c.loop-number.nodes.items part d) (get_or c.join.new.nodes part d) there (c.loop-number.invariant.1 part below d)
          (λ inside. c.join.ensures.joined part (subst (λ (xs : List ℕ). Contains xs part) (sym group) inside) d)
          (λ outside. c.join.ensures.others part d (λ inside. outside (subst (λ (xs : List ℕ). Contains xs part) group inside))
          ∙ ap (λ (xs : List Node). get_or xs part d) c.deref_mut.ensures.value)),
    )

pub returns-clause-members : goal.returns-clause-members
returns-clause-members c = λ part below d.
    subst (λ (groups : List (List ℕ)). Contains (members_of c.args.parts groups (get_or c.loop-number.nodes.items part d)) part)
    (take_all c.loop-number.number (map (λ (g : Vec ℕ Global). g.items) c.args.groups.now) (omega (arith, length-map c.args.groups.now (λ (g : Vec ℕ Global). g.items), c.loop-number-test.false)))
    (c.loop-number.invariant.1 part below d)
