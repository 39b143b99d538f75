use Rattle.std.proofs.Common.{length, [], Contains, subst, sym, arith}
use Rattle.std.proofs.lemmas.List.{take_all}
use Rattle.std.proofs.lemmas.List.Elements.{All-take}
use Rattle.plan_order.specs.Edges.{alone}
use Rattle.plan_order.specs.Cycle.{HasCycle}
use Rattle.plan_order.proofs.Orders.{some_pairs}
use Rattle.plan_order.proofs.order.placing.closing_edge.Goals as goal

pub loop-open-init : goal.loop-open-init
loop-open-init c = record {
  apart = some_pairs (alone c.args.ids.now) c.args.edges.now c.requires.cycle;
  in_range = omega arith;
  first = λ cycle. let some = some_pairs (alone c.args.ids.now) [] cycle in omega (arith, some);
  cycle = subst (λ edges. HasCycle (alone c.args.ids.now) edges) (sym (take_all (length c.args.edges.now) c.args.edges.now (omega arith))) c.requires.cycle;
}

pub has_cycle-requires-clause-edges : goal.has_cycle-requires-clause-edges
has_cycle-requires-clause-edges c =
    All-take (λ edge. Contains c.args.ids.now edge.0 × Contains c.args.ids.now edge.1) _ c.args.edges.now c.requires.edges
