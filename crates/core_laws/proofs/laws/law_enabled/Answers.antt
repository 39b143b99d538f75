use Rattle.coupled_loop.specs.PlanFrames.{frame_of}
use Rattle.core_laws.proofs.PlanSound.{plan_sound}
use Rattle.core_laws.proofs.Enabling.{all_or_one}
use Rattle.core_laws.proofs.laws.law_enabled.Goals as goal

pub returns : goal.returns
returns g c plan exchanged solvers schedule actors valid settled is =
    all_or_one (frame_of plan exchanged) solvers (plan_sound plan exchanged valid) settled schedule actors is
