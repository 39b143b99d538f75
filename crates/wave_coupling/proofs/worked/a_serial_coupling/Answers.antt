use Rattle.std.proofs.Common.{refl}
use Rattle.wave_coupling.proofs.OnLiterals.{waves_on_literals}
use Rattle.wave_coupling.proofs.worked.a_serial_coupling.Goals as goal

pub returns-clause-outcome : goal.returns-clause-outcome
unfolding waves_on_literals
returns-clause-outcome c = refl

pub returns-clause-readings : goal.returns-clause-readings
unfolding waves_on_literals
returns-clause-readings c = refl
