-- A configuration has one plan at most: its nodes have one order.
use Rattle.std.proofs.Common.{◌≡◌, ℕ, List, refl, ap, sym, subst, ◌∙◌}
use Rattle.cpl_config.specs.declared.config.Config.{Config}
use Rattle.cpl_config.specs.SoundConfig.{IsSoundConfig}
use Rattle.cpl_plan.specs.declared.parts.PlanParts.{PlanParts}
use Rattle.cpl_plan.specs.PlanNodes.{node_members, solved_before}
use Rattle.cpl_plan.specs.ValidPlan.{IsValidPlan}
use Rattle.cpl_plan.proofs.PlanNodesOnce.{one_order}
use Rattle.plan_order.specs.declared.node.Node.{Node}
use Rattle.plan_order.specs.declared.node.Node.TheVariants.{Single, Group}
use Rattle.plan_order.specs.NodeOrder.{IsNodeOrder}
use Rattle.config_rules.specs.ConfigRules.{IsAccepted}
use Rattle.plan_build.specs.PlanOf.{plan_of, IsPlanOf}
use Rattle.plan_build.proofs.Valid.{valid_plan}

-- the members of a node are the same in whichever order nodes stand
same_members : (config : Config) (nodes others : List Node) (node : Node) → node_members (plan_of config nodes) node ≡ node_members (plan_of config others) node
same_members config nodes others (Single part) = refl
same_members config nodes others (Group scheme) = refl

members_same : (config : Config) (nodes others : List Node) → node_members (plan_of config nodes) ≡ node_members (plan_of config others)
members_same config nodes others = λ i node. same_members config nodes others node i

pub one_plan : (config : Config) (plan other : PlanParts) → IsSoundConfig config → IsAccepted config → IsPlanOf config plan → IsPlanOf config other → plan ≡ other
one_plan config plan other sound accepted is is' =
    let said : plan ≡ plan_of config plan.nodes = is.said in
    let said' : other ≡ plan_of config other.nodes = is'.said in
    let valid : IsValidPlan (plan_of config plan.nodes) = subst IsValidPlan said (valid_plan config plan sound accepted is) in
    let own : IsNodeOrder (node_members (plan_of config other.nodes)) (solved_before (plan_of config other.nodes)) other.nodes =
    subst (λ (p : PlanParts). IsNodeOrder (node_members p) (solved_before p) other.nodes) said' is'.ordered in
    let order : IsNodeOrder (node_members (plan_of config plan.nodes)) (solved_before (plan_of config plan.nodes)) other.nodes =
    subst (λ (members : Node → List ℕ). IsNodeOrder members (solved_before (plan_of config plan.nodes)) other.nodes) (members_same config other.nodes plan.nodes) own in
    let nodes : other.nodes ≡ plan.nodes = one_order (plan_of config plan.nodes) valid other.nodes order in
    said ∙ (ap (plan_of config) (sym nodes) ∙ sym said')
