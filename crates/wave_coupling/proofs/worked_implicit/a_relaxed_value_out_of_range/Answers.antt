use Rattle.std.proofs.Common.{refl}
use Rattle.wave_coupling.proofs.OnLiterals.{waves_on_literals}
use Rattle.wave_coupling.proofs.worked_implicit.a_relaxed_value_out_of_range.Goals as goal

pub returns-clause-faults : goal.returns-clause-faults
unfolding waves_on_literals
returns-clause-faults c = refl

pub returns-clause-lines : goal.returns-clause-lines
unfolding waves_on_literals
returns-clause-lines c = refl

pub returns-clause-ends : goal.returns-clause-ends
unfolding waves_on_literals
returns-clause-ends c = refl
