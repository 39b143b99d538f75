use Rattle.std.proofs.Common.{subst}
use Rattle.std.specs.List.{zip}
use Rattle.fixed_num.specs.Norm.{IsRoot}
use Rattle.convergence.proofs.ChangeSquares.{change-squares}
use Rattle.convergence.proofs.norms.norms_of.Goals as goal

pub returns-clause-change : goal.returns-clause-change
returns-clause-change c =
    subst (λ squares. IsRoot squares c.norm_of_difference.result) (change-squares (zip c.args.new.now c.args.old.now)) c.norm_of_difference.ensures
