use Rattle.convergence.proofs.Verdicts.{verdict-Converged, verdict-AtLimit, verdict-NotConverged, verdict-Again}
use Rattle.convergence.proofs.judging.judge.Goals as goal

pub returns-clause-converged : goal.returns-clause-converged
returns-clause-converged c = rw c.verdict.ensures (verdict-Converged _ c.args.k c.args.min c.args.max)

pub returns-clause-at_limit : goal.returns-clause-at_limit
returns-clause-at_limit c = rw c.verdict.ensures (verdict-AtLimit _ c.args.k c.args.min c.args.max)

pub returns-clause-not_converged : goal.returns-clause-not_converged
returns-clause-not_converged c = rw c.verdict.ensures (λ place. verdict-NotConverged _ c.args.k c.args.min c.args.max place)

pub returns-clause-again : goal.returns-clause-again
returns-clause-again c = rw c.verdict.ensures (verdict-Again _ c.args.k c.args.min c.args.max)
