use Rattle.std.proofs.Common.{sym, ap, ◌∙◌, length}
use Rattle.convergence.proofs.Rows.{length-measured}
use Rattle.convergence.proofs.measures.Measures.len.Goals as goal

pub returns-clause-count : goal.returns-clause-count
returns-clause-count c = sym (length-measured _ _ _ _ c.self.invariant) ∙ ap length c.self.view_is
