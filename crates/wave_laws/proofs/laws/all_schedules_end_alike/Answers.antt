use Rattle.core_laws.proofs.PlanSound.{plan_sound}
use Rattle.core_laws.proofs.Ends.{same_end}
use Rattle.wave_coupling.specs.Coupling.{exchanged, wave_frame, wave_solvers}
use Rattle.wave_laws.proofs.Settling.{wave_settled}
use Rattle.wave_laws.proofs.WaveLaws.{results_end}
use Rattle.wave_laws.proofs.laws.all_schedules_end_alike.Goals as goal

pub returns-clause-results : goal.returns-clause-results
returns-clause-results g c plan meshes solvers states schedule actors valid is none stuck =
    results_end plan meshes solvers states valid schedule actors is none stuck

pub returns-clause-endings : goal.returns-clause-endings
returns-clause-endings g c plan meshes solvers states schedule actors part valid is none stuck below =
    (same_end (wave_frame plan) (wave_solvers plan meshes solvers states) (plan_sound plan (exchanged plan) valid) (wave_settled plan valid) schedule actors part is none stuck below).2
