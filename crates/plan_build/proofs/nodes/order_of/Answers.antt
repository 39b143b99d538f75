use Rattle.std.proofs.Common.{ℕ, List, map, Vec, Global, Err, ap, sym, ◌∙◌}
use Rattle.std.specs.Prelude.{filter}
use Rattle.cpl_config.specs.declared.config.Config.{Config}
use Rattle.cpl_config.specs.declared.config.SchemeTable.{SchemeTable}
use Rattle.config_rules.specs.Members.{is_implicit}
use Rattle.config_laws.specs.Numbered.{numbers_in, befores_in}
use Rattle.plan_build.proofs.NodeOrders.{groups_fit, befores_fit, order_fits, never_closes}
use Rattle.plan_build.proofs.nodes.order_of.Goals as goal

pub node_order-requires-clause-groups : goal.node_order-requires-clause-groups
node_order-requires-clause-groups c =
    groups_fit c.args.whole.now c.requires.accepted c.len-parts.result (map (λ (group : Vec ℕ Global). group.items) c.as_slice-3.result.now) c.len-parts.ensures
    (ap (λ (groups : List (Vec ℕ Global)). map (λ (group : Vec ℕ Global). group.items) groups) c.as_slice-3.ensures.value
    ∙ (c.in_ok-groups.ensures
    ∙ (ap (λ (config : Config). map (numbers_in config) (filter is_implicit c.as_slice.result.now)) (sym c.requires.same)
    ∙ ap (λ (tables : List SchemeTable). map (numbers_in c.args.whole.now) (filter is_implicit tables)) c.as_slice.ensures)))

pub node_order-requires-clause-befores : goal.node_order-requires-clause-befores
node_order-requires-clause-befores c =
    befores_fit c.args.whole.now c.requires.accepted c.len-parts.result c.as_slice-4.result.now c.len-parts.ensures
    (c.as_slice-4.ensures.value
    ∙ (c.in_ok-befores.ensures
    ∙ (ap (λ (config : Config). befores_in config c.as_slice-2.result.now) (sym c.requires.same) ∙ ap (befores_in c.args.whole.now) c.as_slice-2.ensures)))

pub returns-in-Ok : goal.returns-in-Ok
returns-in-Ok c =
    order_fits c.args.whole.now c.len-parts.result (map (λ (group : Vec ℕ Global). group.items) c.as_slice-3.result.now) c.as_slice-4.result.now c.in-Ok.order.items c.len-parts.ensures
    (ap (λ (groups : List (Vec ℕ Global)). map (λ (group : Vec ℕ Global). group.items) groups) c.as_slice-3.ensures.value
    ∙ (c.in_ok-groups.ensures
    ∙ (ap (λ (config : Config). map (numbers_in config) (filter is_implicit c.as_slice.result.now)) (sym c.requires.same)
    ∙ ap (λ (tables : List SchemeTable). map (numbers_in c.args.whole.now) (filter is_implicit tables)) c.as_slice.ensures)))
    (c.as_slice-4.ensures.value
    ∙ (c.in_ok-befores.ensures
    ∙ (ap (λ (config : Config). befores_in config c.as_slice-2.result.now) (sym c.requires.same) ∙ ap (befores_in c.args.whole.now) c.as_slice-2.ensures))) c.in-Ok.ensures.order

pub memory_of-requires : goal.memory_of-requires
memory_of-requires c = λ at is.
    never_closes c.args.whole.now c.requires.accepted c.len-parts.result (map (λ (group : Vec ℕ Global). group.items) c.as_slice-3.result.now) c.as_slice-4.result.now at c.len-parts.ensures
    (ap (λ (groups : List (Vec ℕ Global)). map (λ (group : Vec ℕ Global). group.items) groups) c.as_slice-3.ensures.value
    ∙ (c.in_ok-groups.ensures
    ∙ (ap (λ (config : Config). map (numbers_in config) (filter is_implicit c.as_slice.result.now)) (sym c.requires.same)
    ∙ ap (λ (tables : List SchemeTable). map (numbers_in c.args.whole.now) (filter is_implicit tables)) c.as_slice.ensures)))
    (c.as_slice-4.ensures.value
    ∙ (c.in_ok-befores.ensures
    ∙ (ap (λ (config : Config). befores_in config c.as_slice-2.result.now) (sym c.requires.same) ∙ ap (befores_in c.args.whole.now) c.as_slice-2.ensures))) (c.in-Err.ensures.cycle at (ap Err is))
