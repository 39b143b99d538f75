use Rattle.std.proofs.Common.{◌≡◌, map, take, Some}
use Rattle.std.specs.Prelude.{slice_get}
use Rattle.cpl_plan.specs.declared.parts.Scheme.{Scheme}
use Rattle.coupled_loop.specs.Given.{Look}
use Rattle.wave_coupling.specs.Posts.{Post}
use Rattle.wave_coupling.specs.InputWave.{over}
use Rattle.group_course.specs.Ready.{Tells}
use Rattle.group_course.specs.Taken.{read_in, waves_before}
use Rattle.group_course.proofs.course.Course.read.Given as goal

abbrev pub invariant-loop-place : goal.invariant-loop-place
invariant-loop-place l =
    (look : Look Post) (scheme : Scheme) → Tells l.plan l.stores l.at l.self look → slice_get l.plan.schemes l.at.scheme ≡ Some scheme
    → l.waves.items ≡ take l.place (map (read_in l.plan look scheme l.at.window l.at.start (waves_before l.at.number l.self.waves)) (over scheme.accel))
