-- A cycle of the nodes of the configuration would be one of the nodes of the plan, which have an order.
use Rattle.std.proofs.Common.{◌≡◌, ℕ, ◌<◌, Bool, true, false, not, ◌&&◌, nat_lt, cond, List, [], ◌∷◌, length, map, get_or, Option, Some, Contains, inl, inr, refl, ap, ap₂, sym, subst, ◌∙◌, arith}
use Rattle.std.specs.Prelude.{slice_get, slice_index_or}
use Rattle.std.specs.Option.{option_map_or}
use Rattle.std.proofs.lemmas.Bool.{and_parts, ltb-true, eqb-true}
use Rattle.std.proofs.lemmas.List.{length-map}
use Rattle.std.proofs.lemmas.Option.{slice_get-get_or}
use Rattle.plan_order.specs.declared.node.Node.{Node}
use Rattle.plan_order.specs.declared.node.Node.TheVariants.{Single, Group}
use Rattle.plan_order.specs.Groups.{is_grouped}
use Rattle.plan_order.specs.NodeOrder.{StandsBefore}
use Rattle.plan_order.specs.Cycle.{Leads, HasCycle}
use Rattle.plan_order.proofs.Loops.{head_in, tail_in, in_cons}
use Rattle.plan_order.proofs.Orders.{none_in_nil, no_cycle}
use Rattle.cpl_plan.specs.declared.parts.PlanParts.{PlanParts}
use Rattle.cpl_plan.specs.declared.parts.Scheme.{Scheme}
use Rattle.cpl_plan.specs.declared.parts.SchemeKind.{SchemeKind}
use Rattle.cpl_plan.specs.declared.parts.SchemeKind.TheVariants as S
use Rattle.cpl_plan.specs.ExchangeKinds as kinds
use Rattle.cpl_plan.specs.PlanTests.{has_members}
use Rattle.cpl_plan.specs.PlanNodes.{node_members, solved_before, members_if_implicit, first_and_second}
use Rattle.cpl_plan.specs.ValidPlan.{IsValidPlan}
use Rattle.cpl_plan.proofs.Readings.{each_at, there}
use Rattle.cpl_plan.proofs.PlanNodesOnce.{some_node}
use Rattle.cpl_config.specs.declared.config.Config.{Config}
use Rattle.cpl_config.specs.declared.config.PartTable.{PartTable}
use Rattle.cpl_config.specs.declared.config.SchemeTable.{SchemeTable}
use Rattle.config_rules.specs.Circles.{number_of}
use Rattle.config_rules.specs.Members.{is_implicit}
use Rattle.config_laws.specs.Numbered as numbered
use Rattle.config_laws.proofs.KnownSchemes.{KnownSchemes}
use Rattle.config_laws.proofs.NodesOf.{in_group}
use Rattle.config_laws.proofs.Numbers as places
use Rattle.plan_laws.specs.PlanNames.{part_name}
use Rattle.plan_laws.specs.PlanTables.{part_table}
use Rattle.plan_laws.specs.PlanSchemes.{kind_word, one_of_two, scheme_table}
use Rattle.plan_laws.specs.ConfigOfPlan.{config_of_plan}
use Rattle.plan_laws.proofs.Lists.{at_in, in_at, from_mapped, two_items}
use Rattle.plan_laws.proofs.Grouped.{in_flat, flat_in}
use Rattle.plan_laws.proofs.Known.{part_in, part_name_is, part_declared, same_part}
use Rattle.plan_laws.proofs.Tables.{scheme_from, member_in, members_are, implicit_is}

single_in : (b : Bool) (part number : ℕ) → Contains (cond b (part ∷ []) []) number → (b ≡ true) × (part ≡ number)
single_in true part number inside = elim (in_cons part [] number inside) [
  | inl same ↦ (refl, same)
  | inr none ↦ absurd (none_in_nil number none)
]
single_in false part number inside = absurd (none_in_nil number inside)

-- a walk goes on wherever its nodes are within others and its pairs are among others
module _ {N M : Type 0} (members : N → List ℕ) (pairs : List (ℕ × ℕ)) (members' : M → List ℕ) (pairs' : List (ℕ × ℕ))
    (within : (x : N) (p : ℕ) → Contains (members x) p → (y : M) × ((q : ℕ) → Contains (members x) q → Contains (members' y) q))
    (kept : (pair : ℕ × ℕ) → Contains pairs pair → Contains pairs' pair) where
  stands : (x y : N) (x' y' : M) → ((q : ℕ) → Contains (members x) q → Contains (members' x') q) → ((q : ℕ) → Contains (members y) q → Contains (members' y') q)
      → StandsBefore members pairs x y → StandsBefore members' pairs' x' y'
  stands x y x' y' one other before = record {
    pair = before.pair;
    listed = kept before.pair before.listed;
    from = one before.pair.0 before.from;
    to = other before.pair.1 before.to;
  }

  leads : (x : N) (between : List N) (y : N) (x' y' : M) → ((q : ℕ) → Contains (members x) q → Contains (members' x') q) → ((q : ℕ) → Contains (members y) q → Contains (members' y') q)
      → Leads members pairs x between y → (between' : List M) × Leads members' pairs' x' between' y'
  leads x [] y x' y' one other walk = ([], stands x y x' y' one other walk)
  leads x (next ∷ rest) y x' y' one other walk =
      let middle = within next walk.0.pair.1 walk.0.to in
      let later = leads next rest y middle.0 y' middle.1 other walk.1 in
      (middle.0 ∷ later.0, (stands x next x' middle.0 one middle.1 walk.0, later.1))

  first_member_of : (x : N) (between : List N) (y : N) → Leads members pairs x between y → (p : ℕ) × Contains (members x) p
  first_member_of x [] y walk = (walk.pair.0, walk.from)
  first_member_of x (next ∷ rest) y walk = (walk.0.pair.0, walk.0.from)

  pub cycle_within : HasCycle members pairs → HasCycle members' pairs'
  cycle_within cycle =
      let first = first_member_of cycle.start cycle.between cycle.start cycle.walk in
      let node = within cycle.start first.0 first.1 in
      let walk = leads cycle.start cycle.between cycle.start node.0 node.0 node.1 node.1 cycle.walk in
      record { start = node.0; between = walk.0; walk = walk.1 }

module _ (plan : PlanParts) (valid : IsValidPlan plan) where
  abbrev config : Config
  config = config_of_plan plan

  -- a name has its number
  pub number_is : (p : ℕ) → p < length plan.parts → number_of config (part_name plan p) ≡ p
  number_is p within =
      let at = places.numbered config (part_name plan p) (part_declared plan valid p within) in
      let table : PartTable = get_or config.participant (number_of config (part_name plan p)) (part_table plan (there plan.parts p within).0) in
      let from = from_mapped (part_table plan) plan.parts (number_of config (part_name plan p)) table (slice_get-get_or config.participant (number_of config (part_name plan p)) (part_table plan (there plan.parts p within).0) at.within) in
      let named : part_name plan (number_of config (part_name plan p)) ≡ part_name plan p =
      part_name_is plan valid (number_of config (part_name plan p)) from.0 from.1 ∙ (ap (λ (t : PartTable). t.name) from.2 ∙ at.named (part_table plan (there plan.parts p within).0)) in
      same_part plan valid (number_of config (part_name plan p)) p (part_in plan valid (number_of config (part_name plan p)) from.0 from.1) within named

  pub numbers_are : (s : ℕ) (scheme : Scheme) → slice_get plan.schemes s ≡ Some scheme → numbered.numbers_in config (scheme_table plan s scheme) ≡ scheme.members
  numbers_are s scheme is = ap (map (number_of config)) (members_are plan valid s scheme is) ∙ back scheme.members (member_in plan valid s scheme is)
    where
      back : (ps : List ℕ) → ((p : ℕ) → Contains ps p → p < length plan.parts) → map (number_of config) (map (part_name plan) ps) ≡ ps
      back [] all = refl
      back (p ∷ ps) all =
          let here : number_of config (part_name plan p) ≡ p = number_is p (all p (head_in p ps)) in
          let rest : map (number_of config) (map (part_name plan) ps) ≡ ps = back ps (λ q inside. all q (tail_in p ps q inside)) in
          cc

  -- a node of the configuration is within one of the plan

  members_there : (s : ℕ) (scheme : Scheme) → slice_get plan.schemes s ≡ Some scheme → kinds.is_implicit scheme.kind ≡ true → node_members plan (Group s) ≡ scheme.members
  members_there s scheme is implicit =
      ap (λ (o : Option Scheme). option_map_or members_if_implicit o []) is ∙ ap (λ b. cond b scheme.members []) implicit

  node_within : KnownSchemes config → (x : Node) (p : ℕ) → Contains (numbered.node_numbers config x) p → (y : Node) × ((q : ℕ) → Contains (numbered.node_numbers config x) q → Contains (node_members plan y) q)
  node_within known (Single part) p inside =
      let own = single_in (nat_lt part (length config.participant) && not (is_grouped (numbered.groups_in config) part)) part p inside in
      let less : part < length config.participant = ltb-true part (length config.participant) (and_parts _ _ own.0).0 in
      let within : part < length plan.parts = omega (arith, less, length-map plan.parts (part_table plan)) in
      let node = some_node plan valid part within in
      (node.0, λ q q_in. subst (λ (n : ℕ). Contains (node_members plan node.0) n) (single_in (nat_lt part (length config.participant) && not (is_grouped (numbered.groups_in config) part)) part q q_in).1 node.1)
  node_within known (Group g) p inside =
      let group = in_group config known g p inside in
      let at = at_in config.scheme group.table group.listed in
      let from = scheme_from plan valid at.0 group.table at.1 in
      let implicit : kinds.is_implicit from.0.kind ≡ true = sym (implicit_is plan valid at.0 from.0) ∙ (ap is_implicit from.2 ∙ group.implicit) in
      let numbers : slice_index_or (numbered.groups_in config) g [] ≡ from.0.members = group.group ∙ (ap (numbered.numbers_in config) (sym from.2) ∙ numbers_are at.0 from.0 from.1) in
      (Group at.0, λ q q_in. subst (λ (ns : List ℕ). Contains ns q) (sym (members_there at.0 from.0 from.1 implicit)) (subst (λ (ns : List ℕ). Contains ns q) numbers q_in))

  -- a first and a second of the configuration are those of the plan

  pair_same : (kind : SchemeKind) (ps : List ℕ) (pair : ℕ × ℕ) → has_members kind (length ps) ≡ true → ((p : ℕ) → Contains ps p → p < length plan.parts)
      → Contains (numbered.first_and_second config (kind_word kind) (one_of_two kind 0 (map (part_name plan) ps)) (one_of_two kind 1 (map (part_name plan) ps))) pair → Contains (first_and_second kind ps) pair
  pair_same S.SerialExplicit ps pair counted all inside =
      let items = two_items ps (eqb-true (length ps) 2 counted) in
      let first_in : Contains ps items.0 = subst (λ (ns : List ℕ). Contains ns items.0) (sym items.2) (head_in items.0 (items.1 ∷ [])) in
      let second_in : Contains ps items.1 = subst (λ (ns : List ℕ). Contains ns items.1) (sym items.2) (tail_in items.0 (items.1 ∷ []) items.1 (head_in items.1 [])) in
      let told : Contains ((number_of config (part_name plan items.0), number_of config (part_name plan items.1)) ∷ []) pair =
      subst (λ (ns : List ℕ). Contains (numbered.first_and_second config (kind_word S.SerialExplicit) (one_of_two S.SerialExplicit 0 (map (part_name plan) ns)) (one_of_two S.SerialExplicit 1 (map (part_name plan) ns))) pair) items.2 inside in
      let is : (number_of config (part_name plan items.0), number_of config (part_name plan items.1)) ≡ (items.0, items.1) = ap₂ (λ (a b : ℕ). (a, b)) (number_is items.0 (all items.0 first_in)) (number_is items.1 (all items.1 second_in)) in
      subst (λ (ns : List ℕ). Contains (first_and_second S.SerialExplicit ns) pair) (sym items.2) (subst (λ (two : ℕ × ℕ). Contains (two ∷ []) pair) is told)
  pair_same S.ParallelExplicit ps pair counted all inside = absurd (none_in inside)
    where
      none_in : {pair : ℕ × ℕ} → Contains [] pair → ⊥
      none_in inside = omega (arith, inside.1)
  pair_same S.SerialImplicit ps pair counted all inside = absurd (omega (arith, inside.1))
  pair_same S.ParallelImplicit ps pair counted all inside = absurd (omega (arith, inside.1))
  pair_same S.Multi ps pair counted all inside = absurd (omega (arith, inside.1))

  pair_kept : (pair : ℕ × ℕ) → Contains (numbered.befores_in config config.scheme) pair → Contains (solved_before plan) pair
  pair_kept pair inside =
      let of = in_flat (λ (table : SchemeTable). numbered.first_and_second config table.kind table.first table.second) config.scheme pair inside in
      let at = at_in config.scheme of.0 of.1 in
      let from = scheme_from plan valid at.0 of.0 at.1 in
      let told = subst (λ (table : SchemeTable). Contains (numbered.first_and_second config table.kind table.first table.second) pair) (sym from.2) of.2 in
      flat_in (λ (scheme : Scheme). first_and_second scheme.kind scheme.members) plan.schemes from.0 pair (in_at plan.schemes at.0 from.0 from.1)
      (pair_same from.0.kind from.0.members pair (each_at _ plan.schemes valid.schemes.members_counted at.0 from.0 from.1) (member_in plan valid at.0 from.0 from.1) told)

  pub no_cycle_there : KnownSchemes config → HasCycle (numbered.node_numbers config) (numbered.befores_in config config.scheme) → ⊥
  no_cycle_there known cycle =
      no_cycle (node_members plan) (solved_before plan) plan.nodes valid.nodes
      (cycle_within (numbered.node_numbers config) (numbered.befores_in config config.scheme) (node_members plan) (solved_before plan) (node_within known) pair_kept cycle)
