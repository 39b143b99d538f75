use Rattle.std.proofs.Common.{refl}
use Rattle.wave_coupling.proofs.OnLiterals.{waves_on_literals}
use Rattle.wave_coupling.proofs.worked_implicit.a_residual_relative_measure.Goals as goal

pub returns : goal.returns
unfolding waves_on_literals
returns c = refl
