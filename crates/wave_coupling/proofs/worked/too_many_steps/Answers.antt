use Rattle.std.proofs.Common.{refl}
use Rattle.wave_coupling.proofs.OnLiterals.{waves_on_literals}
use Rattle.wave_coupling.proofs.worked.too_many_steps.Goals as goal

pub returns-clause-steps : goal.returns-clause-steps
unfolding waves_on_literals
returns-clause-steps c = refl

pub returns-clause-faults : goal.returns-clause-faults
unfolding waves_on_literals
returns-clause-faults c = refl
