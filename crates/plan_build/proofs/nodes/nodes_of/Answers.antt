use Rattle.std.proofs.Common.{List, ap, sym, subst, ◌∙◌}
use Rattle.cpl_config.specs.declared.config.Config.{Config}
use Rattle.cpl_config.specs.SoundConfig.{IsSoundConfig}
use Rattle.plan_order.specs.NodeOrder.{IsNodeOrder}
use Rattle.plan_order.specs.declared.node.Node.{Node}
use Rattle.config_laws.specs.Numbered.{befores_in, node_numbers}
use Rattle.plan_build.specs.Nodes.{implicit_numbers}
use Rattle.plan_build.proofs.NodeOrders.{named_order}
use Rattle.plan_build.proofs.nodes.nodes_of.Goals as goal

pub returns : goal.returns
returns c =
    let same = c.config-whole.ensures.same in
    let whole : Config = c.config-whole.result.now in
    named_order c.args.config.now (subst IsSoundConfig same c.config-whole.ensures.sound) c.requires c.as_slice-3.result.now c.as_slice-2.result.now c.in_ok-nodes.nodes.items
    (c.as_slice-3.ensures.value ∙ (c.in_ok-numbers.ensures ∙ ap implicit_numbers (c.as_slice.ensures ∙ ap (λ (config : Config). config.scheme) same)))
    c.in_ok-nodes.ensures
    (subst (λ (config : Config). IsNodeOrder (node_numbers config) (befores_in config config.scheme) c.as_slice-2.result.now) same
    (subst (λ (order : List Node). IsNodeOrder (node_numbers whole) (befores_in whole whole.scheme) order) (sym c.as_slice-2.ensures.value) c.in_ok-order.ensures))
