use Rattle.std.proofs.Common.{refl}
use Rattle.wave_coupling.proofs.OnLiterals.{waves_on_literals}
use Rattle.wave_coupling.proofs.worked_implicit.a_member_is_cut.Goals as goal

pub returns-clause-faults : goal.returns-clause-faults
unfolding waves_on_literals
returns-clause-faults c = refl

pub returns-clause-endings : goal.returns-clause-endings
unfolding waves_on_literals
returns-clause-endings c = refl

pub returns-clause-lines : goal.returns-clause-lines
unfolding waves_on_literals
returns-clause-lines c = refl

pub returns-clause-steps : goal.returns-clause-steps
unfolding waves_on_literals
returns-clause-steps c = refl
