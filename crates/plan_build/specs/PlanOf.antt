-- The plan that a configuration says, in numbers: each name by the number of what it stands for. The project's own.
use Rattle.std.specs.Prelude.{◌≡◌, List, map, flat_map}
use Rattle.std.specs.List.{enumerate_from}
use Rattle.cpl_config.specs.declared.config.Config.{Config}
use Rattle.cpl_plan.specs.declared.parts.PlanParts.{PlanParts}
use Rattle.cpl_plan.specs.declared.parts.Scheme.{Scheme}
use Rattle.cpl_plan.specs.declared.parts.Exchange.{Exchange}
use Rattle.cpl_plan.specs.PlanNodes.{node_members, solved_before}
use Rattle.plan_order.specs.NodeOrder.{IsNodeOrder}
use Rattle.plan_order.specs.declared.node.Node.{Node}
use Rattle.config_laws.specs.FitNumbers.{end_ticks}
use Rattle.scheme_parts.specs.NumbersOf.{exchanges_before}
use Rattle.scheme_parts.specs.ExchangeOf.{exchanges_of}
use Rattle.scheme_parts.specs.SchemeOf.{scheme_of}
use Rattle.plan_build.specs.DataOf.{data_of}
use Rattle.plan_build.specs.MeshOf.{mesh_of}
use Rattle.plan_build.specs.PartOf.{part_of}
use Rattle.plan_build.specs.WindowsOf.{window_method, window_size, most_windows}

-- the schemes, each with the number of exchanges before its own
abbrev pub schemes_of : Config → List Scheme
schemes_of config = map (λ numbered. scheme_of config (exchanges_before config numbered.0) numbered.1) (enumerate_from 0 config.scheme)

-- the exchanges of all schemes, those of the first scheme first
abbrev pub exchanges_of_all : Config → List Exchange
exchanges_of_all config = flat_map (λ numbered. exchanges_of config numbered.0 numbered.1) (enumerate_from 0 config.scheme)

-- the plan of a configuration, with its nodes in this order
abbrev pub plan_of : Config → List Node → PlanParts
plan_of config nodes = record {
  method = window_method config.window_method;
  window = window_size config;
  end_time = end_ticks config;
  most_windows = most_windows config;
  parts = map (part_of config) config.participant;
  meshes = map (mesh_of config) config.mesh;
  data_list = map data_of config.data_list;
  schemes = schemes_of config;
  exchanges = exchanges_of_all config;
  nodes = nodes;
}

-- the plan says what the configuration says, and its nodes stand in the order in which they are solved
pub record IsPlanOf (config : Config) (plan : PlanParts) : Type 0 where
  pub said : plan ≡ plan_of config plan.nodes
  pub ordered : IsNodeOrder (node_members plan) (solved_before plan) plan.nodes
