-- The nodes of the plans of three participants stand in order.
use Rattle.std.proofs.Common.{refl, zero, suc, ◌<◌, [], ◌∷◌, length, arith}
use Rattle.std.specs.Prelude.{Bool, Contains}
use Rattle.plan_order.specs.NodeOrder.{IsNodeOrder}
use Rattle.plan_order.proofs.SmallOrders.{order_from_test}
use Rattle.cpl_plan.specs.PlanNodes.{node_members, solved_before}
use Rattle.cpl_plan.specs.declared.parts.Accel.{Accel}
use Rattle.plan_order.specs.declared.node.Node.{Node}
use Rattle.plan_order.specs.declared.node.Node.TheVariants.{Single, Group}
use Rattle.core_tests.specs.Trios.{trio}

module _ (strict : Bool) (accel : Accel) where
  two : (node : Node) → 0 < length (node_members (trio strict accel) node) → Contains (Group 0 ∷ Single 2 ∷ []) node
  two (Group zero) some = (0, omega (arith), refl)
  two (Group (suc zero)) some = absurd (omega (arith, some))
  two (Group (suc (suc s))) some = absurd (omega (arith, some))
  two (Single zero) some = absurd (omega (arith, some))
  two (Single (suc zero)) some = absurd (omega (arith, some))
  two (Single (suc (suc zero))) some = (1, omega (arith), refl)
  two (Single (suc (suc (suc p)))) some = absurd (omega (arith, some))

  pub trio_in_order : IsNodeOrder (node_members (trio strict accel)) (solved_before (trio strict accel)) (trio strict accel).nodes
  trio_in_order = order_from_test (node_members (trio strict accel)) (solved_before (trio strict accel)) (Group 0 ∷ Single 2 ∷ []) two (trio strict accel).nodes refl
