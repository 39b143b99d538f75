use Rattle.wave_readings.specs.Setting.{vertices_at}
use Rattle.wave_readings.proofs.Knowing.{setting_knows}
use Rattle.wave_readings.proofs.AllFit.{posts_fit, loop_posts}
use Rattle.wave_readings.proofs.readings.posted_waves_end_with_the_window.Goals as goal

pub returns-clause-in_schedules : goal.returns-clause-in_schedules
returns-clause-in_schedules types g plan meshes solvers states sound schedule actors part setting is below =
    posts_fit plan (vertices_at plan meshes) meshes solvers states sound (setting_knows plan meshes solvers states sound setting) schedule actors is part below

pub returns-clause-in_loop : goal.returns-clause-in_loop
returns-clause-in_loop types g plan meshes solvers states sound part setting below = loop_posts plan (vertices_at plan meshes) meshes solvers states sound (setting_knows plan meshes solvers states sound setting) part below
