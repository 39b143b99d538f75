use Rattle.core_laws.proofs.PlanSound.{plan_sound}
use Rattle.core_laws.proofs.Shortness.{short}
use Rattle.wave_coupling.specs.Coupling.{exchanged, wave_frame, wave_solvers}
use Rattle.wave_laws.proofs.Settling.{wave_settled}
use Rattle.wave_laws.proofs.WaveLaws.{few_iterations}
use Rattle.wave_laws.proofs.laws.no_schedule_is_longer.Goals as goal

pub returns-clause-by_iterations : goal.returns-clause-by_iterations
returns-clause-by_iterations g c plan meshes solvers states schedule actors iterations valid is some few =
    short (wave_frame plan) (wave_solvers plan meshes solvers states) (plan_sound plan (exchanged plan) valid) (wave_settled plan valid) iterations some few schedule actors is

pub returns-clause-iterations : goal.returns-clause-iterations
returns-clause-iterations g c plan scheme valid = few_iterations plan valid scheme
