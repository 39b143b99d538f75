-- A valid plan's nodes have no other order.
use Rattle.std.proofs.Common.{ℕ, zero, suc, List, [], ◌∷◌, ◌+◌, length, refl, ap, arith, All}
use Rattle.plan_order.specs.declared.node.Node.{Node}
use Rattle.plan_order.specs.declared.node.Node.TheVariants.{Single, Group}
use Rattle.plan_order.specs.NodeOrder.{IsNodeOrder}
use Rattle.cpl_plan.specs.PlanNodes.{node_members, solved_before}
use Rattle.cpl_plan.specs.ExamplePlan.{example_plan, two_participants}
use Rattle.cpl_plan.specs.BrokenPlans.{nodes_out_of_order, greater_first}
use Rattle.cpl_plan.specs.ValidPlan.{IsValidPlan}
use Rattle.cpl_plan.proofs.FactsTold.{valid_plan}
use Rattle.cpl_plan.proofs.ExampleOrder.{two_in_order, example_in_order}
use Rattle.cpl_plan.proofs.PlanNodesOnce.{one_order}

two : IsValidPlan two_participants
two = valid_plan two_participants refl two_in_order

many : IsValidPlan example_plan
many = valid_plan example_plan refl example_in_order

-- the first node of an order, by a number that tells nodes apart
code : Node → ℕ
code (Single p) = p
code (Group s) = 100 + s

first_code : List Node → ℕ
unfolding code
first_code [] = 0
first_code (node ∷ nodes) = code node

pub none_in_order : All (λ nodes. IsNodeOrder (node_members two_participants) (solved_before two_participants) nodes → ⊥) nodes_out_of_order
unfolding first_code code
none_in_order zero d within = λ order. let same = one_order two_participants two (Single 1 ∷ Single 0 ∷ []) order in absurd (omega (arith, ap first_code same))
none_in_order (suc zero) d within = λ order. let same = one_order two_participants two (Single 0 ∷ []) order in absurd (omega (arith, ap (length {A = Node}) same))
none_in_order (suc (suc zero)) d within = λ order.
    let same = one_order two_participants two (Single 0 ∷ Single 1 ∷ Single 1 ∷ []) order in absurd (omega (arith, ap (length {A = Node}) same))
none_in_order (suc (suc (suc zero))) d within = λ order.
    let same = one_order two_participants two (Single 0 ∷ Single 1 ∷ Group 0 ∷ []) order in absurd (omega (arith, ap (length {A = Node}) same))
none_in_order (suc (suc (suc (suc k)))) d within = absurd (omega (arith, within))

pub least_first : IsNodeOrder (node_members example_plan) (solved_before example_plan) greater_first → ⊥
unfolding first_code code
least_first order = let same = one_order example_plan many greater_first order in absurd (omega (arith, ap first_code same))
