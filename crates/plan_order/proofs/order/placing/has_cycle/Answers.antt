use Rattle.std.proofs.Common.{◌≡◌, ℕ, Bool, true, false, not, List, Option, Some, None, MatchOption, MatchBool, Vec, Global}
use Rattle.std.specs.Option.{is_some}
use Rattle.plan_order.specs.Edges.{alone}
use Rattle.plan_order.specs.Cycle.{HasCycle}
use Rattle.plan_order.specs.NodeOrder.{IsNodeOrder}
use Rattle.plan_order.proofs.Orders.{no_cycle}
use Rattle.plan_order.proofs.order.placing.has_cycle.Goals as goal

-- where there is an order there is no cycle
told : (ids : List ℕ) (edges : List (ℕ × ℕ)) (placed : Option (Vec ℕ Global)) (none : Bool) → is_some placed ≡ not none
    → MatchOption placed (HasCycle (alone ids) edges) (λ order. IsNodeOrder (alone ids) edges order.items)
    → MatchBool none (HasCycle (alone ids) edges) (¬ HasCycle (alone ids) edges)
told ids edges (Some order) true is found = cc
told ids edges (Some order) false is found = λ cycle. no_cycle (alone ids) edges order.items found cycle
told ids edges None true is found = found
told ids edges None false is found = cc

pub returns : goal.returns
returns c = told c.args.ids.now c.args.edges.now c.in_ok-placed.placed c.is_none.result c.is_none.ensures c.in_ok-placed.ensures
