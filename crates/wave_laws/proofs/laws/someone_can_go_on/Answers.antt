use Rattle.core_laws.proofs.PlanSound.{plan_sound}
use Rattle.core_laws.proofs.Enabling.{all_or_one}
use Rattle.wave_coupling.specs.Coupling.{exchanged, wave_frame, wave_solvers}
use Rattle.wave_laws.proofs.Settling.{wave_settled}
use Rattle.wave_laws.proofs.laws.someone_can_go_on.Goals as goal

pub returns : goal.returns
returns g c plan meshes solvers states schedule actors valid is =
    all_or_one (wave_frame plan) (wave_solvers plan meshes solvers states) (plan_sound plan (exchanged plan) valid) (wave_settled plan valid) schedule actors is
