use Rattle.std.proofs.Common.{◌≡◌, ℕ, ◌+◌, ◌<◌, slice_index_or, length, arith, ap, sym, ◌∙◌, cond, eqb, get_or, length-set}
use Rattle.std.proofs.lemmas.Grind.{get_or_default_zero}
use Rattle.std.proofs.lemmas.List.Sums.{sum_by_more}
use Rattle.plan_order.proofs.EdgeSteps.{few_edges, count_more}
use Rattle.plan_order.proofs.order.edges.counts_before.Goals as goal

pub overflow_add-index_mut : goal.overflow_add-index_mut
overflow_add-index_mut c =
    let at : ℕ = (slice_index_or c.args.edges.now c.loop-edge.edge-index (0, 0)).1 in
    omega (
      arith,
      few_edges c.args.edges.now c.loop-edge.edge-index at,
      c.loop-edge.invariant.1 at,
      get_or_default_zero c.loop-edge.counts.items at c.index_mut.result.now,
      c.index_mut.ensures.value,
    )

pub loop-edge-preserved : goal.loop-edge-preserved
loop-edge-preserved c =
    let at : ℕ = (slice_index_or c.args.edges.now c.loop-edge.edge-index (0, 0)).1 in
    let within : at < length c.loop-edge.counts.items = omega (arith, c.requires c.loop-edge.edge-index (0, 0) c.loop-edge-test.true, c.loop-edge.invariant.0) in
    let old : c.index_mut.result.now ≡ get_or c.loop-edge.counts.items at 0 =
    c.index_mut.ensures.value ∙ get_or_default_zero c.loop-edge.counts.items at c.index_mut.result.now within in (
      length-set c.loop-edge.counts.items at (c.index_mut.result.now + 1) ∙ c.loop-edge.invariant.0,
      λ b. count_more c.loop-edge.counts.items at c.index_mut.result.now b within old
          ∙ (ap (λ n. n + cond (eqb at b) 1 0) (c.loop-edge.invariant.1 b)
          ∙ sym (sum_by_more (λ edge. cond (eqb edge.1 b) 1 0) c.args.edges.now c.loop-edge.edge-index (0, 0) c.loop-edge-test.true)),
    )
