use Rattle.std.proofs.Common.{◌≡◌, map, take}
use Rattle.coupled_loop.specs.Given.{Look}
use Rattle.wave_coupling.specs.Posts.{Post}
use Rattle.group_course.specs.CourseTells.{posted_wave}
use Rattle.group_course.specs.StoresTell.{StoresTell}
use Rattle.group_course.proofs.relaxing.posted.Given as goal

abbrev pub invariant-loop-place : goal.invariant-loop-place
invariant-loop-place l =
    (look : Look Post) → StoresTell l.plan look l.at.scheme l.stores
    → l.waves.items ≡ map (posted_wave l.plan look l.at.window l.at.number) (take l.place l.exchanges)
