-- A configuration has one plan, and other names leave it as it is.
use Rattle.std.proofs.Common.{◌≡◌, ℕ, List, [], Option, Some, None, refl, ap, sym, subst, ◌∙◌}
use Rattle.std.specs.Prelude.{slice_get, option_map}
use Rattle.std.specs.Option.{option_map_or}
use Rattle.std.proofs.lemmas.Option.{slice_get-map}
use Rattle.plan_order.specs.declared.node.Node.{Node}
use Rattle.plan_order.specs.declared.node.Node.TheVariants.{Single, Group}
use Rattle.plan_order.specs.NodeOrder.{IsNodeOrder}
use Rattle.cpl_plan.specs.declared.parts.PlanParts.{PlanParts}
use Rattle.cpl_plan.specs.declared.parts.Part.{Part}
use Rattle.cpl_plan.specs.PlanNodes.{node_members, solved_before, itself_if_alone}
use Rattle.cpl_plan.specs.ValidPlan.{IsValidPlan}
use Rattle.cpl_plan.proofs.PlanNodesOnce.{one_order}
use Rattle.cpl_config.specs.declared.config.Config.{Config}
use Rattle.plan_build.specs.PlanOf.{plan_of, IsPlanOf}
use Rattle.plan_laws.specs.Renaming.{Renaming, KeepsApart, renamed}
use Rattle.plan_laws.specs.Unnamed.{unnamed_part, unnamed}
use Rattle.plan_laws.proofs.RenamedSchemes.{plan_same}

-- the order of a plan is that of what it says, whatever its nodes
ordered_as_said : (config : Config) (plan : PlanParts) → IsPlanOf config plan → (nodes : List Node) → IsNodeOrder (node_members (plan_of config nodes)) (solved_before (plan_of config nodes)) plan.nodes
ordered_as_said config plan is nodes =
    subst (λ (p : PlanParts). IsNodeOrder (node_members p) (solved_before p) plan.nodes) is.said is.ordered

same_order : (config : Config) (plan : PlanParts) (nodes : List Node) → IsPlanOf config plan
    → IsNodeOrder (node_members (plan_of config plan.nodes)) (solved_before (plan_of config plan.nodes)) nodes → IsNodeOrder (node_members plan) (solved_before plan) nodes
same_order config plan nodes is order = subst (λ (p : PlanParts). IsNodeOrder (node_members p) (solved_before p) nodes) (sym is.said) order

pub one_plan : (config : Config) (plan other : PlanParts) → IsValidPlan plan → IsPlanOf config plan → IsPlanOf config other → other ≡ plan
one_plan config plan other valid is its =
    let nodes : other.nodes ≡ plan.nodes = one_order plan valid other.nodes (same_order config plan other.nodes is (ordered_as_said config other its plan.nodes)) in
    its.said ∙ (ap (plan_of config) nodes ∙ sym is.said)

-- nodes do not know of names

alone_unnamed : (part : ℕ) (o : Option Part) → option_map_or (λ (p : Part). itself_if_alone part p.group) (option_map unnamed_part o) [] ≡ option_map_or (λ (p : Part). itself_if_alone part p.group) o []
alone_unnamed part None = refl
alone_unnamed part (Some p) = refl

node_unnamed : (plan : PlanParts) (node : Node) → node_members (unnamed plan) node ≡ node_members plan node
node_unnamed plan (Group scheme) = refl
node_unnamed plan (Single part) =
    ap (λ (o : Option Part). option_map_or (λ (p : Part). itself_if_alone part p.group) o []) (slice_get-map unnamed_part plan.parts part)
    ∙ alone_unnamed part (slice_get plan.parts part)

members_unnamed : (plan : PlanParts) → node_members (unnamed plan) ≡ node_members plan
members_unnamed plan = λ i node. node_unnamed plan node i

order_unnamed : (plan : PlanParts) (nodes : List Node) → IsNodeOrder (node_members (unnamed plan)) (solved_before plan) nodes → IsNodeOrder (node_members plan) (solved_before plan) nodes
order_unnamed plan nodes order = subst (λ (members : Node → List ℕ). IsNodeOrder members (solved_before plan) nodes) (members_unnamed plan) order

order_named : (plan : PlanParts) (nodes : List Node) → IsNodeOrder (node_members plan) (solved_before plan) nodes → IsNodeOrder (node_members (unnamed plan)) (solved_before plan) nodes
order_named plan nodes order = subst (λ (members : Node → List ℕ). IsNodeOrder members (solved_before plan) nodes) (sym (members_unnamed plan)) order

pub same_but_for_names : (names : Renaming) (config : Config) (plan other : PlanParts) → KeepsApart names → IsValidPlan plan → IsPlanOf config plan → IsPlanOf (renamed names config) other → unnamed other ≡ unnamed plan
same_but_for_names names config plan other apart valid is its =
    let said : unnamed (plan_of (renamed names config) plan.nodes) ≡ unnamed (plan_of config plan.nodes) = plan_same names apart config plan.nodes in
    let told : IsNodeOrder (node_members (unnamed (plan_of (renamed names config) plan.nodes))) (solved_before (unnamed (plan_of (renamed names config) plan.nodes))) other.nodes =
    order_named (plan_of (renamed names config) plan.nodes) other.nodes (ordered_as_said (renamed names config) other its plan.nodes) in
    let order : IsNodeOrder (node_members (unnamed (plan_of config plan.nodes))) (solved_before (unnamed (plan_of config plan.nodes))) other.nodes =
    subst (λ (p : PlanParts). IsNodeOrder (node_members p) (solved_before p) other.nodes) said told in
    let nodes : other.nodes ≡ plan.nodes = one_order plan valid other.nodes (same_order config plan other.nodes is (order_unnamed (plan_of config plan.nodes) other.nodes order)) in
    ap unnamed its.said ∙ (ap (λ (ns : List Node). unnamed (plan_of (renamed names config) ns)) nodes ∙ (said ∙ ap unnamed (sym is.said)))
