-- A plan is that of a configuration where each of its fields is.
use Rattle.std.proofs.Common.{◌≡◌, List, map, refl, ap, sym, subst, ◌∙◌}
use Rattle.cpl_config.specs.declared.config.Config.{Config}
use Rattle.cpl_plan.specs.declared.parts.PlanParts.{PlanParts}
use Rattle.cpl_plan.specs.PlanNodes.{node_members, solved_before}
use Rattle.plan_order.specs.NodeOrder.{IsNodeOrder}
use Rattle.plan_order.specs.declared.node.Node.{Node}
use Rattle.config_laws.specs.FitNumbers.{end_ticks}
use Rattle.plan_build.specs.DataOf.{data_of}
use Rattle.plan_build.specs.MeshOf.{mesh_of}
use Rattle.plan_build.specs.PartOf.{part_of}
use Rattle.plan_build.specs.WindowsOf.{window_method, window_size, most_windows}
use Rattle.plan_build.specs.PlanOf.{plan_of, schemes_of, exchanges_of_all, IsPlanOf}

-- each field of a plan but its nodes
pub record HasFields (config : Config) (plan : PlanParts) : Type 0 where
  pub of_method : plan.method ≡ window_method config.window_method
  pub of_window : plan.window ≡ window_size config
  pub of_end : plan.end_time ≡ end_ticks config
  pub of_windows : plan.most_windows ≡ most_windows config
  pub of_parts : plan.parts ≡ map (part_of config) config.participant
  pub of_meshes : plan.meshes ≡ map (mesh_of config) config.mesh
  pub of_data : plan.data_list ≡ map data_of config.data_list
  pub of_schemes : plan.schemes ≡ schemes_of config
  pub of_exchanges : plan.exchanges ≡ exchanges_of_all config

-- a plan that has these fields, and these nodes
pub same_plan : (config : Config) (plan : PlanParts) (nodes : List Node) → HasFields config plan → plan.nodes ≡ nodes → plan ≡ plan_of config nodes
same_plan config plan nodes has of_nodes = λ i. record {
  method = has.of_method i;
  window = has.of_window i;
  end_time = has.of_end i;
  most_windows = has.of_windows i;
  parts = has.of_parts i;
  meshes = has.of_meshes i;
  data_list = has.of_data i;
  schemes = has.of_schemes i;
  exchanges = has.of_exchanges i;
  nodes = of_nodes i;
}

-- it is the plan where it has the fields of a configuration that is the same, and nodes that stand in order
pub is_plan : (config numbered : Config) (nodes : List Node) (plan : PlanParts) → numbered ≡ config → plan ≡ plan_of numbered nodes
    → IsNodeOrder (node_members (plan_of numbered nodes)) (solved_before (plan_of numbered nodes)) nodes → IsPlanOf config plan
is_plan config numbered nodes plan same is ordered =
    let whole : plan ≡ plan_of config nodes = is ∙ ap (λ (c : Config). plan_of c nodes) same in
    let own : IsNodeOrder (node_members (plan_of config nodes)) (solved_before (plan_of config nodes)) nodes =
    subst (λ (c : Config). IsNodeOrder (node_members (plan_of c nodes)) (solved_before (plan_of c nodes)) nodes) same ordered in
    subst (IsPlanOf config) (sym whole) (record {
      said = refl;
      ordered = own;
    })
