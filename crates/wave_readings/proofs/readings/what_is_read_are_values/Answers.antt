use Rattle.wave_readings.specs.Setting.{vertices_at}
use Rattle.wave_readings.proofs.Knowing.{setting_knows}
use Rattle.wave_readings.proofs.AllFit.{readings_fit, loop_readings}
use Rattle.wave_readings.proofs.readings.what_is_read_are_values.Goals as goal

pub returns-clause-in_schedules : goal.returns-clause-in_schedules
returns-clause-in_schedules types g plan meshes solvers states sound schedule actors part setting is below =
    readings_fit plan (vertices_at plan meshes) meshes solvers states sound (setting_knows plan meshes solvers states sound setting) schedule actors is part below

pub returns-clause-in_loop : goal.returns-clause-in_loop
returns-clause-in_loop types g plan meshes solvers states sound part setting below = loop_readings plan (vertices_at plan meshes) meshes solvers states sound (setting_knows plan meshes solvers states sound setting) part below
