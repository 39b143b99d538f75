use Rattle.std.proofs.Common.{ℕ, ◌+◌, [], ◌∷◌, ◌++◌, List, length, arith, sym, ap, ◌∙◌}
use Rattle.std.proofs.lemmas.List.FromFn.{map-range_with_len_more, length-map-range_with_len}
use Rattle.edge_projection.specs.declared.edge.Edge.{Edge}
use Rattle.wave_maps.proofs.edges.chain.Goals as goal

pub loop-v-preserved : goal.loop-v-preserved
loop-v-preserved c =
    c.in_ok-push.ensures.items
    ∙ ap (λ (edges : List Edge). edges ++ record { a = c.loop-v.v; b = c.loop-v.v + 1 } ∷ []) c.loop-v.invariant
    ∙ sym (map-range_with_len_more (λ (v : ℕ). record { a = v; b = v + 1 }) 0 c.loop-v.v c.loop-v.v (omega arith))

pub returns-clause-len : goal.returns-clause-len
returns-clause-len c =
    omega (arith, ap length c.loop-v.invariant ∙ length-map-range_with_len (λ (v : ℕ). record { a = v; b = v + 1 }) 0 c.loop-v.v, c.loop-v.auto.v-end, c.saturating_sub-count.ensures)
