-- The node of each participant of a valid plan, and the participants of each node.
use Rattle.std.proofs.Common.{◌≡◌, ℕ, ◌<◌, ◌≤◌, inl, inr, true, ◌&&◌, nat_le, nat_lt, nat_eq, cond, List, [], ◌∷◌, ◌++◌, length, slice_get, filter_map, Option, Some, None, refl, ap, sym, subst, ◌∙◌, ◌^◌, append_assoc, arith, Contains}
use Rattle.std.specs.Prelude.{option_map, option_and_then, option_to_list}
use Rattle.std.specs.Option.{option_map_or}
use Rattle.std.specs.List.{list_all}
use Rattle.std.proofs.lemmas.Bool.{and_parts, leb-true, ltb-true}
use Rattle.std.proofs.lemmas.Option.{none-some, same_Some, slice_get_within}
use Rattle.std.proofs.lemmas.List.Elements.{All-contains}
use Rattle.std.proofs.lemmas.List.Sums.{AllPass-from_list_all}
use Rattle.plan_order.specs.declared.node.Node.{Node}
use Rattle.plan_order.specs.declared.node.Node.TheVariants.{Single, Group}
use Rattle.plan_order.specs.NodeOrder.{first_member}
use Rattle.plan_order.proofs.Loops.{in_cons}
use Rattle.plan_order.proofs.GroupNodes.{first_in}
use Rattle.plan_order.proofs.Orders.{none_in_nil, next_at, all_placed, only_nodes}
use Rattle.cpl_plan.specs.ExchangeKinds.{is_implicit}
use Rattle.cpl_plan.specs.PlanWords.{numbers, is_member, schemes_of, passes, is_among, are_distinct}
use Rattle.cpl_plan.specs.PlanTests.{groups_of, has_iterations}
use Rattle.cpl_plan.specs.PlanNodes.{node_members, solved_before, itself_if_alone, members_if_implicit}
use Rattle.cpl_plan.specs.ValidPlan.{IsValidPlan}
use Rattle.cpl_plan.specs.declared.parts.PlanParts.{PlanParts}
use Rattle.cpl_plan.specs.declared.parts.MeshPlan.{MeshPlan}
use Rattle.cpl_plan.specs.declared.parts.Part.{Part}
use Rattle.cpl_plan.specs.declared.parts.Scheme.{Scheme}
use Rattle.cpl_plan.proofs.Readings.{each_at, passes_at, at_passes, in_among, in_filter, in_numbers, there, same_numbers}
use Rattle.cpl_plan.proofs.PlanNodesOnce.{some_node}
use Rattle.cpl_plan.proofs.Owners.{owner_alone}
use Rattle.coupled_loop.specs.PlanFrames.{owners_of, group_of, members_of, iterations_of}
use Rattle.core_laws.proofs.Sound.{node_by}
use Rattle.core_laws.proofs.PlanLists.{at_split, in_cond, in_middle, filter_map_in, stands_once}

-- a participant that is a node by itself is in no group
of_single : (q p : ℕ) (o : Option Part) → Contains (option_map_or (λ part. itself_if_alone q part.group) o []) p → (q ≡ p) × (option_and_then (λ part. part.group) o ≡ None)
of_single q p None inside = absurd (none_in_nil p inside)
of_single q p (Some part) inside = of part.group inside
  where
    of : (group : Option ℕ) → Contains (itself_if_alone q group) p → (q ≡ p) × (group ≡ None)
    of None inside = elim (in_cons q [] p inside) [ inl same ↦ (same, refl) | inr none ↦ absurd (none_in_nil p none) ]
    of (Some s) inside = absurd (none_in_nil p inside)

-- a member of a group
of_group : (p : ℕ) (o : Option Scheme) → Contains (option_map_or members_if_implicit o []) p → (scheme : Scheme) × (o ≡ Some scheme) × (is_implicit scheme.kind ≡ true) × Contains scheme.members p
of_group p None inside = absurd (none_in_nil p inside)
of_group p (Some scheme) inside = let own = in_cond (is_implicit scheme.kind) scheme.members p inside in (scheme, refl, own.0, own.1)

some_iterations : (min max : ℕ) → (nat_le 1 min && nat_le min max && nat_le max (10 ^ 3)) ≡ true → 1 ≤ max
some_iterations min max is =
    let both = and_parts (nat_le 1 min && nat_le min max) (nat_le max (10 ^ 3)) is in
    let low = and_parts (nat_le 1 min) (nat_le min max) both.0 in
    omega (arith, leb-true 1 min low.0, leb-true min max low.1)

-- the members of a scheme, and of the node that an implicit one is
pub scheme_members : (plan : PlanParts) (s : ℕ) (scheme : Scheme) → slice_get plan.schemes s ≡ Some scheme → members_of plan s ≡ scheme.members
scheme_members plan s scheme is = ap (λ o. option_map_or (λ z. z.members) o []) is

pub implicit_members : (plan : PlanParts) (s : ℕ) (scheme : Scheme) → slice_get plan.schemes s ≡ Some scheme → is_implicit scheme.kind ≡ true → node_members plan (Group s) ≡ scheme.members
implicit_members plan s scheme is implicit = ap (λ o. option_map_or members_if_implicit o []) is ∙ ap (λ b. cond b scheme.members []) implicit

module _ (plan : PlanParts) (valid : IsValidPlan plan) where
  pub declared : (s p : ℕ) (scheme : Scheme) → slice_get plan.schemes s ≡ Some scheme → Contains scheme.members p → p < length plan.parts
  declared s p scheme is member =
      let all = each_at (λ _ z. list_all (λ q. nat_lt q (length plan.parts)) z.members) plan.schemes valid.schemes.members_declared s scheme is in
      ltb-true p (length plan.parts)
      (All-contains (λ q. nat_lt q (length plan.parts) ≡ true) scheme.members p
      (AllPass-from_list_all (λ q. nat_lt q (length plan.parts)) scheme.members all) member)

  group_alone : (s p : ℕ) (part : Part) → slice_get plan.parts p ≡ Some part → Contains (groups_of plan p) s → part.group ≡ Some s
  group_alone s p part at inside =
      of part.group
      (subst (λ (ns : List ℕ). Contains ns s) (same_numbers (groups_of plan p) (option_to_list part.group) (each_at _ plan.parts valid.participants.in_one_group p part at)) inside)
    where
      of : (group : Option ℕ) → Contains (option_to_list group) s → group ≡ Some s
      of None inside = absurd (none_in_nil s inside)
      of (Some t) inside = elim (in_cons t [] s inside) [ inl same ↦ ap Some same | inr none ↦ absurd (none_in_nil s none) ]

  -- the group of a participant is the implicit scheme of which it is a member
  pub group_is : (s p : ℕ) (scheme : Scheme) → slice_get plan.schemes s ≡ Some scheme → is_implicit scheme.kind ≡ true → Contains scheme.members p → group_of plan p ≡ Some s
  group_is s p scheme is implicit member =
      let part = there plan.parts p (declared s p scheme is member) in
      let within : s < length plan.schemes = slice_get_within plan.schemes s scheme is in
      ap (option_and_then (λ q. q.group)) part.1
      ∙ group_alone s p part.0 part.1
      (in_filter (λ t. passes plan.schemes t (λ z. is_implicit z.kind)) (schemes_of plan p) s
      (in_filter (λ t. is_member plan t p) (numbers plan.schemes) s (in_numbers plan.schemes s within)
      (at_passes plan.schemes s (λ z. is_among p z.members) scheme is (in_among p scheme.members member)))
      (at_passes plan.schemes s (λ z. is_implicit z.kind) scheme is implicit))

  -- a node with a member is that member's
  pub node_is : (node : Node) (p : ℕ) → Contains (node_members plan node) p → node_by p (group_of plan p) ≡ node
  node_is (Single q) p inside =
      let own = of_single q p (slice_get plan.parts q) inside in
      let none : group_of plan p ≡ None = ap (group_of plan) (sym own.0) ∙ own.1 in
      ap (node_by p) none ∙ ap Single (sym own.0)
  node_is (Group s) p inside =
      let own = of_group p (slice_get plan.schemes s) inside in
      ap (node_by p) (group_is s p own.0 own.1 own.2 own.3)

  -- a node that is a participant has it alone
  pub alone_in : (q p : ℕ) → Contains (node_members plan (Single q)) p → q ≡ p
  alone_in q p inside = (of_single q p (slice_get plan.parts q) inside).0

  -- each participant is a member of its node, which stands in the order
  pub own_node : (p : ℕ) → p < length plan.parts → Contains (node_members plan (node_by p (group_of plan p))) p
  own_node p below =
      let some = some_node plan valid p below in
      subst (λ (node : Node). Contains (node_members plan node) p) (sym (node_is some.0 p some.1)) some.1

  pub node_placed : (p : ℕ) → p < length plan.parts → Contains plan.nodes (node_by p (group_of plan p))
  node_placed p below =
      let own = own_node p below in
      all_placed (node_members plan) (solved_before plan) plan.nodes valid.nodes (node_by p (group_of plan p)) (omega (arith, own.1))

  -- what stands in the order has a member
  pub node_filled : (node : Node) → Contains plan.nodes node → Contains (node_members plan node) (first_member (node_members plan node))
  node_filled node inside = first_in (node_members plan node) (only_nodes (node_members plan) (solved_before plan) plan.nodes valid.nodes node inside)

  -- the members of a node that is a group are those of the scheme
  pub group_members : (s p : ℕ) → Contains (node_members plan (Group s)) p → node_members plan (Group s) ≡ members_of plan s
  group_members s p inside =
      let own = of_group p (slice_get plan.schemes s) inside in
      implicit_members plan s own.0 own.1 own.2 ∙ sym (scheme_members plan s own.0 own.1)

  pub nodes_once : (before after : List Node) (node : Node) → plan.nodes ≡ before ++ node ∷ after → (Contains before node → ⊥) × (Contains after node → ⊥)
  nodes_once before after node is = (
    (next_at (node_members plan) (solved_before plan) plan.nodes before node after valid.nodes is).ready.unplaced,
    λ inside.
        let later = at_split after node inside in
        let all = is ∙ ap (λ ns. before ++ node ∷ ns) later.2 ∙ sym (append_assoc before (node ∷ later.0) (node ∷ later.1)) in
        (next_at (node_members plan) (solved_before plan) plan.nodes (before ++ node ∷ later.0) node later.1 valid.nodes all).ready.unplaced
        (in_middle before node later.0),
  )

  pub members_once : (s : ℕ) (before after : List ℕ) (p : ℕ) → members_of plan s ≡ before ++ p ∷ after → (Contains before p → ⊥) × (Contains after p → ⊥)
  members_once s before after p is = of (slice_get plan.schemes s) refl is
    where
      of : (o : Option Scheme) → slice_get plan.schemes s ≡ o → option_map_or (λ z. z.members) o [] ≡ before ++ p ∷ after → (Contains before p → ⊥) × (Contains after p → ⊥)
      of None at is = absurd (none_in_nil p (subst (λ (ns : List ℕ). Contains ns p) (sym is) (in_middle before p after)))
      of (Some scheme) at is =
          stands_once before p after
          (subst (λ (ns : List ℕ). are_distinct nat_eq ns ≡ true) is (each_at (λ _ z. are_distinct nat_eq z.members) plan.schemes valid.schemes.members_once s scheme at))

  pub has_some_iterations : (s p : ℕ) → Contains (node_members plan (Group s)) p → 1 ≤ iterations_of plan s
  has_some_iterations s p inside =
      let own = of_group p (slice_get plan.schemes s) inside in
      let counts = each_at (λ _ z. has_iterations z) plan.schemes valid.schemes.iterations s own.0 own.1 in
      let max : iterations_of plan s ≡ own.0.max = ap (λ o. option_map_or (λ z. z.max) o 0) own.1 in
      subst (λ (n : ℕ). 1 ≤ n) (sym max)
      (some_iterations own.0.min own.0.max
      (sym (ap (λ b. cond b (nat_le 1 own.0.min && nat_le own.0.min own.0.max && nat_le own.0.max (10 ^ 3)) (nat_eq own.0.min 1 && nat_eq own.0.max 1)) own.2) ∙ counts))

  -- the owner of a mesh is a participant
  mesh_owner : (mesh owner : ℕ) → option_map (λ m. m.owner) (slice_get plan.meshes mesh) ≡ Some owner → owner < length plan.parts
  mesh_owner mesh owner is = of (slice_get plan.meshes mesh) refl is
    where
      of : (o : Option MeshPlan) → slice_get plan.meshes mesh ≡ o → option_map (λ m. m.owner) o ≡ Some owner → owner < length plan.parts
      of None at is = absurd (none-some owner is)
      of (Some m) at is =
          let holds = (owner_alone plan valid mesh m at owner).1 (sym (same_Some m.owner owner is)) in
          let part = passes_at plan.parts owner (λ p. is_among mesh p.provides) holds in
          slice_get_within plan.parts owner part.0 part.1

  pub owners_are : (p owner : ℕ) → Contains (owners_of plan p) owner → owner < length plan.parts
  owners_are p owner inside = of (slice_get plan.parts p) inside
    where
      of : (o : Option Part) → Contains (option_map_or (λ q. filter_map (λ mesh. option_map (λ m. m.owner) (slice_get plan.meshes mesh)) q.receives) o []) owner → owner < length plan.parts
      of None inside = absurd (none_in_nil owner inside)
      of (Some part) inside =
          let from = filter_map_in (λ mesh. option_map (λ m. m.owner) (slice_get plan.meshes mesh)) part.receives owner inside in
          mesh_owner from.0 owner from.2
