use Rattle.std.proofs.Common.{ℕ, List, [], ◌∷◌, ◌++◌, ◌+◌, ap, sym, ◌∙◌}
use Rattle.line_solvers.proofs.Checks.{range_more}
use Rattle.line_solvers.proofs.line.indexes_from.Goals as goal

pub loop-index-preserved : goal.loop-index-preserved
loop-index-preserved c =
    c.in_ok-push.ensures.items
    ∙ ap (λ (xs : List ℕ). xs ++ (c.args.first + c.loop-index.index) ∷ []) c.loop-index.invariant
    ∙ sym (range_more c.args.first c.loop-index.index)
