use Rattle.std.proofs.lemmas.Result.{err_from_is_err_and}
use Rattle.line_solvers.proofs.ruled.Ruled.step.Goals as goal

pub returns-in_err-next-clause-cause : goal.returns-in_err-next-clause-cause
returns-in_err-next-clause-cause g c =
    let p = err_from_is_err_and c.from_residual.result c.from_residual.ensures.1 in
    let told = rw c.state-state.ensures.components at (c.in_err-next.ensures.cause c.self.inside.line.common.forbid c.self.inside.line.common.out) in
    rw (p.1, p.2, ← c.self.view_is) told
