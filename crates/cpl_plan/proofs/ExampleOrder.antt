-- The nodes of the example plans stand in order.
use Rattle.std.proofs.Common.{◌≡◌, refl, ap, sym, subst, ℕ, zero, suc, ◌<◌, ◌≤◌, List, [], ◌∷◌, length, arith, lit<}
use Rattle.std.specs.Prelude.{Contains}
use Rattle.plan_order.specs.NodeOrder.{first_member, IsNodeOrder}
use Rattle.plan_order.proofs.Orders.{none_in_nil}
use Rattle.plan_order.proofs.SmallOrders.{order_from_test}
use Rattle.cpl_plan.specs.PlanNodes.{node_members, solved_before}
use Rattle.cpl_plan.specs.ExamplePlan.{example_plan, two_participants}
use Rattle.cpl_plan.specs.SmallPlans.{first_step_plan, iterated_plan, serial_iterated_plan, fan, wide}
use Rattle.cpl_plan.specs.declared.parts.PlanParts.{PlanParts}
use Rattle.plan_order.specs.declared.node.Node.{Node}
use Rattle.plan_order.specs.declared.node.Node.TheVariants.{Single, Group}

abbrev members : Node → List ℕ
members = node_members example_plan

abbrev four_nodes : List Node
four_nodes = Group 1 ∷ Group 2 ∷ Single 7 ∷ Group 0 ∷ []

-- participants 0 to 6 are in groups, and schemes 3 and 4 are explicit
all_four : (node : Node) → 0 < length (members node) → Contains four_nodes node
all_four (Group zero) some = (3, omega (arith), refl)
all_four (Group (suc zero)) some = (0, omega (arith), refl)
all_four (Group (suc (suc zero))) some = (1, omega (arith), refl)
all_four (Group (suc (suc (suc zero)))) some = absurd (omega (arith, some))
all_four (Group (suc (suc (suc (suc zero))))) some = absurd (omega (arith, some))
all_four (Group (suc (suc (suc (suc (suc s)))))) some = absurd (omega (arith, some))
all_four (Single zero) some = absurd (omega (arith, some))
all_four (Single (suc zero)) some = absurd (omega (arith, some))
all_four (Single (suc (suc zero))) some = absurd (omega (arith, some))
all_four (Single (suc (suc (suc zero)))) some = absurd (omega (arith, some))
all_four (Single (suc (suc (suc (suc zero))))) some = absurd (omega (arith, some))
all_four (Single (suc (suc (suc (suc (suc zero)))))) some = absurd (omega (arith, some))
all_four (Single (suc (suc (suc (suc (suc (suc zero))))))) some = absurd (omega (arith, some))
all_four (Single (suc (suc (suc (suc (suc (suc (suc zero)))))))) some = (2, omega (arith), refl)
all_four (Single (suc (suc (suc (suc (suc (suc (suc (suc p))))))))) some = absurd (omega (arith, some))

pub example_in_order : IsNodeOrder members (solved_before example_plan) example_plan.nodes
example_in_order = order_from_test members (solved_before example_plan) four_nodes all_four example_plan.nodes refl

-- the one scheme is explicit
both : (node : Node) → 0 < length (node_members two_participants node) → Contains (Single 0 ∷ Single 1 ∷ []) node
both (Single zero) some = (0, omega (arith), refl)
both (Single (suc zero)) some = (1, omega (arith), refl)
both (Single (suc (suc p))) some = absurd (omega (arith, some))
both (Group zero) some = absurd (omega (arith, some))
both (Group (suc s)) some = absurd (omega (arith, some))

pub two_in_order : IsNodeOrder (node_members two_participants) (solved_before two_participants) two_participants.nodes
two_in_order =
    order_from_test (node_members two_participants) (solved_before two_participants) (Single 0 ∷ Single 1 ∷ []) both two_participants.nodes refl

-- a group of all participants is the only node
module _ (plan : PlanParts) (no_single : (p : ℕ) → node_members plan (Single p) ≡ []) (one_group : (s : ℕ) → node_members plan (Group (suc s)) ≡ [])
    (no_pair : solved_before plan ≡ []) (some : 0 < length (node_members plan (Group 0))) where
  only_group : (node : Node) → 0 < length (node_members plan node) → node ≡ Group 0
  only_group (Single p) has = absurd (omega (arith, has, ap length (no_single p)))
  only_group (Group zero) has = refl
  only_group (Group (suc s)) has = absurd (omega (arith, has, ap length (one_group s)))

  pub group_in_order : IsNodeOrder (node_members plan) (solved_before plan) (Group 0 ∷ [])
  group_in_order = (
    record {
      ready = record {
        is_node = some;
        unplaced = λ inside. none_in_nil (Group 0) inside;
        released = λ other stands. absurd (omega (arith, stands.listed.1, ap length no_pair));
      };
      least = λ other ready.
          let P : Node → Type 0 = λ node. first_member (node_members plan (Group 0)) ≤ first_member (node_members plan node) in
          subst P (sym (only_group other ready.is_node)) (omega (arith));
    },
    λ node has. subst (λ (other : Node). Contains (Group 0 ∷ []) other) (sym (only_group node has)) (0, lit< tt, refl),
  )

no_single_iterated : (p : ℕ) → node_members iterated_plan (Single p) ≡ []
no_single_iterated zero = refl
no_single_iterated (suc zero) = refl
no_single_iterated (suc (suc p)) = refl

pub iterated_in_order : IsNodeOrder (node_members iterated_plan) (solved_before iterated_plan) iterated_plan.nodes
iterated_in_order = group_in_order iterated_plan no_single_iterated (λ s. refl) refl (lit< tt)

no_single_serial : (p : ℕ) → node_members serial_iterated_plan (Single p) ≡ []
no_single_serial zero = refl
no_single_serial (suc zero) = refl
no_single_serial (suc (suc p)) = refl

pub serial_iterated_in_order : IsNodeOrder (node_members serial_iterated_plan) (solved_before serial_iterated_plan) serial_iterated_plan.nodes
serial_iterated_in_order = group_in_order serial_iterated_plan no_single_serial (λ s. refl) refl (lit< tt)

no_single_fan : (p : ℕ) → node_members fan (Single p) ≡ []
no_single_fan zero = refl
no_single_fan (suc zero) = refl
no_single_fan (suc (suc zero)) = refl
no_single_fan (suc (suc (suc p))) = refl

pub fan_in_order : IsNodeOrder (node_members fan) (solved_before fan) fan.nodes
fan_in_order = group_in_order fan no_single_fan (λ s. refl) refl (lit< tt)

no_single_wide : (p : ℕ) → node_members (wide 6) (Single p) ≡ []
no_single_wide zero = refl
no_single_wide (suc zero) = refl
no_single_wide (suc (suc p)) = refl

pub wide_in_order : IsNodeOrder (node_members (wide 6)) (solved_before (wide 6)) (wide 6).nodes
wide_in_order = group_in_order (wide 6) no_single_wide (λ s. refl) refl (lit< tt)

pub first_step_in_order : IsNodeOrder (node_members first_step_plan) (solved_before first_step_plan) first_step_plan.nodes
first_step_in_order = two_in_order
