use Rattle.std.proofs.Common.{refl}
use Rattle.wave_coupling.proofs.OnLiterals.{waves_on_literals}
use Rattle.wave_coupling.proofs.worked_more.a_mapped_sum.Goals as goal

pub returns-clause-faults : goal.returns-clause-faults
unfolding waves_on_literals
returns-clause-faults c = refl

pub returns-clause-ends : goal.returns-clause-ends
unfolding waves_on_literals
returns-clause-ends c = refl

pub returns-clause-accepted : goal.returns-clause-accepted
unfolding waves_on_literals
returns-clause-accepted c = refl
