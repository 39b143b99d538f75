use Rattle.std.proofs.Common.{refl}
use Rattle.wave_coupling.proofs.OnLiterals.{waves_on_literals}
use Rattle.wave_coupling.proofs.worked.a_state_out_of_range.Goals as goal

pub returns-clause-outcome : goal.returns-clause-outcome
unfolding waves_on_literals
returns-clause-outcome c = refl

pub returns-clause-endings : goal.returns-clause-endings
unfolding waves_on_literals
returns-clause-endings c = refl
