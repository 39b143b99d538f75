use Rattle.coupled_loop.specs.PlanFrames.{frame_of}
use Rattle.core_laws.proofs.PlanSound.{plan_sound}
use Rattle.core_laws.proofs.Ends.{prefix}
use Rattle.core_laws.proofs.laws.law_prefix.Goals as goal

pub returns : goal.returns
returns g c plan exchanged solvers schedule actors part valid settled is inside =
    prefix (frame_of plan exchanged) solvers (plan_sound plan exchanged valid) settled schedule actors part is inside
