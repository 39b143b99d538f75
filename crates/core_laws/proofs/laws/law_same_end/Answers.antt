use Rattle.coupled_loop.specs.PlanFrames.{frame_of}
use Rattle.core_laws.proofs.PlanSound.{plan_sound}
use Rattle.core_laws.proofs.Ends.{same_end}
use Rattle.core_laws.proofs.laws.law_same_end.Goals as goal

pub returns : goal.returns
returns g c plan exchanged solvers schedule actors part valid settled is none stuck inside =
    same_end (frame_of plan exchanged) solvers (plan_sound plan exchanged valid) settled schedule actors part is none stuck inside
