use Rattle.std.proofs.Common.{refl}
use Rattle.wave_coupling.proofs.OnLiterals.{waves_on_literals}
use Rattle.wave_coupling.proofs.worked_more.a_second_after_iterations.Goals as goal

pub returns-clause-states : goal.returns-clause-states
unfolding waves_on_literals
returns-clause-states c = refl

pub returns-clause-steps : goal.returns-clause-steps
unfolding waves_on_literals
returns-clause-steps c = refl

pub returns-clause-lines : goal.returns-clause-lines
unfolding waves_on_literals
returns-clause-lines c = refl

pub returns-clause-ends : goal.returns-clause-ends
unfolding waves_on_literals
returns-clause-ends c = refl
