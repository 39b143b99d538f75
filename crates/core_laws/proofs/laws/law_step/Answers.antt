use Rattle.coupled_loop.specs.PlanFrames.{frame_of}
use Rattle.core_laws.proofs.PlanSound.{plan_sound}
use Rattle.core_laws.proofs.FedHistories.{told_prefix}
use Rattle.core_laws.proofs.laws.law_step.Goals as goal

pub returns : goal.returns
returns g c plan exchanged history sides part valid settled legal inside =
    told_prefix (frame_of plan exchanged) (plan_sound plan exchanged valid) settled history sides part legal inside
