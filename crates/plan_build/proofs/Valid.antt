-- The plan of an accepted configuration is valid.
use Rattle.std.proofs.Common.{◌≡◌, sym, subst, List}
use Rattle.cpl_config.specs.declared.config.Config.{Config}
use Rattle.cpl_config.specs.SoundConfig.{IsSoundConfig}
use Rattle.cpl_plan.specs.declared.parts.PlanParts.{PlanParts}
use Rattle.cpl_plan.specs.PlanNodes.{node_members, solved_before}
use Rattle.cpl_plan.specs.ValidPlan.{HasParticipants, HasSchemes, IsValidPlan}
use Rattle.plan_order.specs.declared.node.Node.{Node}
use Rattle.plan_order.specs.NodeOrder.{IsNodeOrder}
use Rattle.config_rules.specs.ConfigRules.{IsAccepted}
use Rattle.plan_build.specs.PlanOf.{plan_of, IsPlanOf}
use Rattle.plan_build.proofs.SizeFacts.{sizes}
use Rattle.plan_build.proofs.MeshFacts.{mesh_facts}
use Rattle.plan_build.proofs.PartFacts as parts
use Rattle.plan_build.proofs.MapFacts.{maps_join, maps_once, watched}
use Rattle.plan_build.proofs.GroupFacts.{in_a_scheme, in_one_group, meet_once}
use Rattle.plan_build.proofs.SchemeFacts as schemes
use Rattle.plan_build.proofs.AccelFacts.{accelerations}
use Rattle.plan_build.proofs.StepFacts.{first_step}
use Rattle.plan_build.proofs.ExchangeFacts.{exchange_facts}

module _ (config : Config) (sound : IsSoundConfig config) (accepted : IsAccepted config) (nodes : List Node) where
  part_facts : HasParticipants (plan_of config nodes)
  part_facts = record {
    provided_declared = parts.provided_there config sound accepted nodes;
    provided_once = parts.provided_once config sound accepted nodes;
    received_declared = parts.received_there config sound accepted nodes;
    received_from_others = parts.received_from_others config sound accepted nodes;
    received_once = parts.received_one_time config sound accepted nodes;
    written_on_own_meshes = parts.written_on_own config sound accepted nodes;
    read_on_own_meshes = parts.read_on_own config sound accepted nodes;
    written_once = parts.written_once config sound accepted nodes;
    read_once = parts.read_one_time config sound accepted nodes;
    fed_once = parts.fed_once config sound accepted nodes;
    maps_join = maps_join config sound accepted nodes;
    maps_once = maps_once config sound accepted nodes;
    watched_on_own_meshes = watched config sound accepted nodes;
    few_received = parts.few_received config sound accepted nodes;
    few_written = parts.few_written config sound accepted nodes;
    few_read = parts.few_read config sound accepted nodes;
    few_maps = parts.few_maps config sound accepted nodes;
    in_a_scheme = in_a_scheme config sound accepted nodes;
    in_one_group = in_one_group config sound accepted nodes;
  }

  scheme_facts : HasSchemes (plan_of config nodes)
  scheme_facts = record {
    members_declared = schemes.members_there config sound accepted nodes;
    members_once = schemes.members_once config sound accepted nodes;
    members_counted = schemes.members_counted config sound accepted nodes;
    meet_once = meet_once config sound accepted nodes;
    iterations = schemes.iterate config sound accepted nodes;
    measures = schemes.measured config sound accepted nodes;
    measured_first = schemes.measured_first config sound accepted nodes;
    limits = schemes.limits config sound accepted nodes;
    accelerations = accelerations config sound accepted nodes;
    first_step = first_step config sound accepted nodes;
  }

  pub valid : IsNodeOrder (node_members (plan_of config nodes)) (solved_before (plan_of config nodes)) nodes → IsValidPlan (plan_of config nodes)
  valid ordered = record {
    sizes = sizes config sound accepted nodes;
    meshes = mesh_facts config sound accepted nodes;
    participants = part_facts;
    schemes = scheme_facts;
    exchanges = exchange_facts config sound accepted nodes;
    nodes = ordered;
  }

pub valid_plan : (config : Config) (plan : PlanParts) → IsSoundConfig config → IsAccepted config → IsPlanOf config plan → IsValidPlan plan
valid_plan config plan sound accepted is =
    let said : plan ≡ plan_of config plan.nodes = is.said in
    let ordered : IsNodeOrder (node_members (plan_of config plan.nodes)) (solved_before (plan_of config plan.nodes)) plan.nodes =
    subst (λ (p : PlanParts). IsNodeOrder (node_members p) (solved_before p) plan.nodes) said is.ordered in
    subst IsValidPlan (sym said) (valid config sound accepted plan.nodes ordered)
