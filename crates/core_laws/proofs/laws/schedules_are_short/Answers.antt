use Rattle.coupled_loop.specs.PlanFrames.{frame_of}
use Rattle.core_laws.proofs.PlanSound.{plan_sound}
use Rattle.core_laws.proofs.Shortness.{short}
use Rattle.core_laws.proofs.laws.schedules_are_short.Goals as goal

pub returns : goal.returns
returns g c plan exchanged solvers schedule actors iterations valid settled is some few =
    short (frame_of plan exchanged) solvers (plan_sound plan exchanged valid) settled iterations some few schedule actors is
