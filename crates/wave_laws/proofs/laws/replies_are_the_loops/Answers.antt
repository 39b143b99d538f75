use Rattle.core_laws.proofs.PlanSound.{plan_sound}
use Rattle.core_laws.proofs.FedHistories.{told_prefix}
use Rattle.wave_coupling.specs.Coupling.{exchanged, wave_frame}
use Rattle.wave_laws.proofs.Settling.{wave_settled}
use Rattle.wave_laws.proofs.laws.replies_are_the_loops.Goals as goal

pub returns : goal.returns
returns g plan history sides part valid legal below =
    told_prefix (wave_frame plan) (plan_sound plan (exchanged plan) valid) (wave_settled plan valid) history sides part legal below
