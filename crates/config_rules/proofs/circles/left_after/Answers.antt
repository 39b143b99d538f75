use Rattle.std.proofs.Common.{suc, ap, ◌∙◌, arith}
use Rattle.config_rules.specs.Circles.{followed, left_after}
use Rattle.config_rules.proofs.circles.left_after.Goals as goal

pub times-preserved : goal.times-preserved
times-preserved c = λ n e.
    ap (left_after n) c.in_ok-left.ensures
    ∙ (ap (λ steps. left_after n (followed steps)) c.as_slice.ensures.value ∙ c.times.invariant (suc n) (omega (arith, e)))

pub returns : goal.returns
returns c = c.times.invariant 0 (omega arith)
