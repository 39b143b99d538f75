use Rattle.std.proofs.Common.{refl}
use Rattle.wave_coupling.proofs.OnLiterals.{waves_on_literals}
use Rattle.wave_coupling.proofs.worked_more.a_chain_is_cut.Goals as goal

pub returns-clause-faults : goal.returns-clause-faults
unfolding waves_on_literals
returns-clause-faults c = refl

pub returns-clause-endings : goal.returns-clause-endings
unfolding waves_on_literals
returns-clause-endings c = refl
