use Rattle.std.proofs.Common.{◌≡◌, ℕ, ◌+◌, ◌<◌, ◌&&◌, cond, eqb, length, length-set, slice_index_or, arith, ap, sym, ◌∙◌, ◌++◌, ◌∷◌, [], get_or, Vec, Global}
use Rattle.std.proofs.lemmas.List.{take_all}
use Rattle.std.proofs.lemmas.List.Sums.{sum_by_more}
use Rattle.plan_order.specs.Edges.{edges_between}
use Rattle.plan_order.proofs.Loops.{agrees}
use Rattle.plan_order.proofs.EdgeSteps.{ends_more}
use Rattle.plan_order.proofs.order.edges.ends_after.Goals as goal

pub loop-edge-preserved : goal.loop-edge-preserved
loop-edge-preserved c =
    let edge : ℕ × ℕ = slice_index_or c.args.edges.now c.loop-edge.edge-index (0, 0) in
    let within : edge.0 < length c.loop-edge.after.items = omega (arith, c.requires c.loop-edge.edge-index (0, 0) c.loop-edge-test.true, c.loop-edge.invariant.0) in (
      length-set c.loop-edge.after.items edge.0 c.push.new.self ∙ c.loop-edge.invariant.0,
      λ a b below d.
          let pushed : c.push.new.self.items ≡ (get_or c.loop-edge.after.items edge.0 d).items ++ edge.1 ∷ [] =
          c.in_ok-push.ensures.items
          ∙ ap (λ (v : Vec ℕ Global). v.items ++ edge.1 ∷ []) (c.index_mut.ensures.value ∙ agrees c.loop-edge.after.items edge.0 c.index_mut.result.now d within) in
          ends_more (λ v. v.items) c.loop-edge.after.items edge.0 edge.1 c.push.new.self a b d within pushed
          ∙ (ap (λ n. n + cond (eqb edge.0 a && eqb edge.1 b) 1 0) (c.loop-edge.invariant.1 a b below d)
          ∙ sym (sum_by_more (λ e. cond (eqb e.0 a && eqb e.1 b) 1 0) c.args.edges.now c.loop-edge.edge-index (0, 0) c.loop-edge-test.true)),
    )

pub returns-clause-ends : goal.returns-clause-ends
returns-clause-ends c = λ a b within d.
    c.loop-edge.invariant.1 a b within d
    ∙ ap (λ edges. edges_between edges a b) (take_all c.loop-edge.edge-index c.args.edges.now c.loop-edge-test.false)
