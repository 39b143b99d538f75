-- In a valid plan each participant is in one node, so that first members tell nodes apart.
use Rattle.std.proofs.Common.{◌≡◌, ℕ, ◌<◌, inl, inr, Bool, true, false, nat_lt, List, [], length, refl, ap, sym, subst, ◌∙◌, cond}
use Rattle.std.specs.Prelude.{Contains, slice_get, Option, Some, None}
use Rattle.std.specs.Option.{option_to_list, option_map_or}
use Rattle.std.specs.List.{list_all}
use Rattle.std.proofs.lemmas.Option.{slice_get_within}
use Rattle.std.proofs.lemmas.List.Elements.{All-contains}
use Rattle.std.proofs.lemmas.List.Sums.{AllPass-from_list_all}
use Rattle.std.proofs.lemmas.Bool.{ltb-true}
use Rattle.plan_order.specs.declared.node.Node.{Node}
use Rattle.plan_order.specs.declared.node.Node.TheVariants.{Single, Group}
use Rattle.plan_order.specs.NodeOrder.{first_member, IsNodeOrder}
use Rattle.plan_order.proofs.Loops.{head_in, in_cons}
use Rattle.plan_order.proofs.GroupNodes.{first_in}
use Rattle.plan_order.proofs.Orders.{none_in_nil, only_order}
use Rattle.cpl_plan.specs.ExchangeKinds.{is_implicit}
use Rattle.cpl_plan.specs.PlanWords.{numbers, is_member, schemes_of, passes, is_among}
use Rattle.cpl_plan.specs.PlanTests.{groups_of}
use Rattle.cpl_plan.specs.PlanNodes.{node_members, solved_before, itself_if_alone, members_if_implicit}
use Rattle.cpl_plan.specs.ValidPlan.{IsValidPlan}
use Rattle.cpl_plan.specs.declared.parts.PlanParts.{PlanParts}
use Rattle.cpl_plan.specs.declared.parts.Part.{Part}
use Rattle.cpl_plan.specs.declared.parts.Scheme.{Scheme}
use Rattle.cpl_plan.proofs.Readings.{each_at, passes_at, at_passes, among_in, in_among, filter_in, in_filter, in_numbers, there, same_numbers}

-- a member of a node that is a participant: it is alone
record IsAlone (plan : PlanParts) (p : ℕ) : Type 0 where
  part : Part
  is : slice_get plan.parts p ≡ Some part
  alone : part.group ≡ None

-- a member of a node that is a group
record IsGrouped (plan : PlanParts) (s p : ℕ) : Type 0 where
  scheme : Scheme
  is : slice_get plan.schemes s ≡ Some scheme
  implicit : is_implicit scheme.kind ≡ true
  member : Contains scheme.members p

in_itself : (q p : ℕ) (group : Option ℕ) → Contains (itself_if_alone q group) p → (group ≡ None) × (q ≡ p)
in_itself q p None inside = elim (in_cons q [] p inside) [ inl same ↦ (refl, same) | inr none ↦ absurd (none_in_nil p none) ]
in_itself q p (Some s) inside = absurd (none_in_nil p inside)

of_single : (q p : ℕ) (o : Option Part) → Contains (option_map_or (λ part. itself_if_alone q part.group) o []) p
    → (part : Part) × (o ≡ Some part) × (part.group ≡ None) × (q ≡ p)
of_single q p None inside = absurd (none_in_nil p inside)
of_single q p (Some part) inside = let own = in_itself q p part.group inside in (part, refl, own.0, own.1)

in_single : (plan : PlanParts) (q p : ℕ) → Contains (node_members plan (Single q)) p → IsAlone plan p × (q ≡ p)
in_single plan q p inside =
    let own = of_single q p (slice_get plan.parts q) inside in
    (record { part = own.0; is = ap (slice_get plan.parts) (sym own.3) ∙ own.1; alone = own.2 }, own.3)

in_members : (p : ℕ) (implicit : Bool) (members : List ℕ) → Contains (cond implicit members []) p → (implicit ≡ true) × Contains members p
in_members p true members inside = (refl, inside)
in_members p false members inside = absurd (none_in_nil p inside)

of_group : (p : ℕ) (o : Option Scheme) → Contains (option_map_or members_if_implicit o []) p
    → (scheme : Scheme) × (o ≡ Some scheme) × (is_implicit scheme.kind ≡ true) × Contains scheme.members p
of_group p None inside = absurd (none_in_nil p inside)
of_group p (Some scheme) inside = let own = in_members p (is_implicit scheme.kind) scheme.members inside in (scheme, refl, own.0, own.1)

in_group : (plan : PlanParts) (s p : ℕ) → Contains (node_members plan (Group s)) p → IsGrouped plan s p
in_group plan s p inside =
    let own = of_group p (slice_get plan.schemes s) inside in
    record { scheme = own.0; is = own.1; implicit = own.2; member = own.3 }

implicit_scheme : Scheme → Bool
implicit_scheme scheme = is_implicit scheme.kind

module _ (plan : PlanParts) (valid : IsValidPlan plan) where
  groups_are : (p : ℕ) (part : Part) → slice_get plan.parts p ≡ Some part → groups_of plan p ≡ option_to_list part.group
  groups_are p part is = same_numbers (groups_of plan p) (option_to_list part.group) (each_at _ plan.parts valid.participants.in_one_group p part is)

  grouped_in : (s p : ℕ) → IsGrouped plan s p → Contains (groups_of plan p) s
  grouped_in s p is =
      let within : s < length plan.schemes = slice_get_within plan.schemes s is.scheme is.is in
      in_filter (λ t. passes plan.schemes t (λ scheme. is_implicit scheme.kind)) (schemes_of plan p) s
      (in_filter (λ t. is_member plan t p) (numbers plan.schemes) s (in_numbers plan.schemes s within)
      (at_passes plan.schemes s (λ scheme. is_among p scheme.members) is.scheme is.is (in_among p is.scheme.members is.member)))
      (at_passes plan.schemes s (λ scheme. is_implicit scheme.kind) is.scheme is.is is.implicit)

  member_declared : (s p : ℕ) → IsGrouped plan s p → p < length plan.parts
  member_declared s p is =
      let all = each_at (λ _ scheme. list_all (λ q. nat_lt q (length plan.parts)) scheme.members) plan.schemes valid.schemes.members_declared s is.scheme is.is in
      ltb-true p (length plan.parts)
      (All-contains (λ q. nat_lt q (length plan.parts) ≡ true) is.scheme.members p
      (AllPass-from_list_all (λ q. nat_lt q (length plan.parts)) is.scheme.members all) is.member)

  -- a participant is in its group alone
  own_group : (s p : ℕ) → IsGrouped plan s p → (part : Part) → slice_get plan.parts p ≡ Some part → part.group ≡ Some s
  own_group s p is part at = of part.group (subst (λ (ns : List ℕ). Contains ns s) (groups_are p part at) (grouped_in s p is))
    where
      of : (group : Option ℕ) → Contains (option_to_list group) s → group ≡ Some s
      of None inside = absurd (none_in_nil s inside)
      of (Some t) inside = elim (in_cons t [] s inside) [ inl same ↦ ap Some same | inr none ↦ absurd (none_in_nil s none) ]

  pub only_participants : (node : Node) (p : ℕ) → Contains (node_members plan node) p → p < length plan.parts
  only_participants (Single q) p inside = let own = in_single plan q p inside in slice_get_within plan.parts p own.0.part own.0.is
  only_participants (Group s) p inside = member_declared s p (in_group plan s p inside)

  not_both : (q s p : ℕ) → Contains (node_members plan (Single q)) p → Contains (node_members plan (Group s)) p → ⊥
  not_both q s p one other =
      let own = (in_single plan q p one).0 in
      let group = own_group s p (in_group plan s p other) own.part own.is in
      none (sym own.alone ∙ group)
    where
      none : None ≡ Some s → ⊥
      none e = cc

  pub one_node : (one other : Node) (p : ℕ) → Contains (node_members plan one) p → Contains (node_members plan other) p → one ≡ other
  one_node (Single q) (Single r) p in_one in_other = ap Single ((in_single plan q p in_one).1 ∙ sym (in_single plan r p in_other).1)
  one_node (Single q) (Group s) p in_one in_other = absurd (not_both q s p in_one in_other)
  one_node (Group s) (Single q) p in_one in_other = absurd (not_both q s p in_other in_one)
  one_node (Group s) (Group t) p in_one in_other =
      let part = there plan.parts p (only_participants (Group s) p in_one) in
      let first = own_group s p (in_group plan s p in_one) part.0 part.1 in
      let second = own_group t p (in_group plan t p in_other) part.0 part.1 in
      let both : Some s ≡ Some t = sym first ∙ second in
      let same : s ≡ t = cc in
      ap Group same

  pub some_node : (p : ℕ) → p < length plan.parts → (node : Node) × Contains (node_members plan node) p
  some_node p within = let part = there plan.parts p within in of part.0 part.1 part.0.group refl
    where
      alone : (part : Part) → slice_get plan.parts p ≡ Some part → part.group ≡ None → Contains (node_members plan (Single p)) p
      alone part is none =
          subst (λ (ns : List ℕ). Contains ns p)
          (sym (ap (λ o. option_map_or (λ q. itself_if_alone p q.group) o []) is ∙ ap (itself_if_alone p) none)) (head_in p [])

      grouped : (s : ℕ) (part : Part) → slice_get plan.parts p ≡ Some part → part.group ≡ Some s → Contains (node_members plan (Group s)) p
      grouped s part is group =
          let own : Contains (groups_of plan p) s =
          subst (λ (ns : List ℕ). Contains ns s) (sym (groups_are p part is ∙ ap option_to_list group)) (head_in s []) in
          let two = filter_in (λ t. passes plan.schemes t (λ scheme. is_implicit scheme.kind)) (schemes_of plan p) s own in
          let member = filter_in (λ t. is_member plan t p) (numbers plan.schemes) s two.0 in
          let scheme = passes_at plan.schemes s (λ scheme. is_among p scheme.members) member.1 in
          let other = passes_at plan.schemes s (λ scheme. is_implicit scheme.kind) two.1 in
          let both : Some other.0 ≡ Some scheme.0 = sym other.1 ∙ scheme.1 in
          let same : other.0 ≡ scheme.0 = cc in
          let implicit : is_implicit scheme.0.kind ≡ true = subst (λ (z : Scheme). is_implicit z.kind ≡ true) same other.2 in
          subst (λ (ns : List ℕ). Contains ns p)
          (sym (ap (λ o. option_map_or members_if_implicit o []) scheme.1 ∙ ap (λ b. cond b scheme.0.members []) implicit))
          (among_in p scheme.0.members scheme.2)

      of : (part : Part) → slice_get plan.parts p ≡ Some part → (group : Option ℕ) → part.group ≡ group → (node : Node) × Contains (node_members plan node) p
      of part is None none = (Single p, alone part is none)
      of part is (Some s) group = (Group s, grouped s part is group)

  -- distinct nodes have distinct first members
  pub by_first : (one other : Node) → 0 < length (node_members plan one) → 0 < length (node_members plan other)
      → first_member (node_members plan one) ≡ first_member (node_members plan other) → one ≡ other
  by_first one other has has' same =
      one_node one other (first_member (node_members plan one)) (first_in (node_members plan one) has)
      (subst (λ (p : ℕ). Contains (node_members plan other) p) (sym same) (first_in (node_members plan other) has'))

  pub one_order : (nodes : List Node) → IsNodeOrder (node_members plan) (solved_before plan) nodes → nodes ≡ plan.nodes
  one_order nodes order = only_order (node_members plan) (solved_before plan) by_first nodes plan.nodes order valid.nodes
