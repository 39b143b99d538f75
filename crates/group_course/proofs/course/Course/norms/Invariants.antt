use Rattle.std.proofs.Common.{◌≡◌, take, Some}
use Rattle.std.specs.Prelude.{slice_get}
use Rattle.cpl_plan.specs.declared.parts.Scheme.{Scheme}
use Rattle.coupled_loop.specs.Given.{Look}
use Rattle.wave_coupling.specs.Posts.{Post}
use Rattle.group_course.specs.CourseTells.{changes_in}
use Rattle.group_course.specs.Ready.{Tells}
use Rattle.group_course.specs.Norms.{sizes_in}
use Rattle.group_course.proofs.course.Course.norms.Given as goal

abbrev pub invariant-loop-i : goal.invariant-loop-i
invariant-loop-i l =
    (look : Look Post) (scheme : Scheme) → Tells l.plan l.stores l.at l.self look → slice_get l.plan.schemes l.at.scheme ≡ Some scheme
    → (l.changes.items ≡ take l.i (changes_in l.plan look scheme l.at.window l.at.start l.at.number))
    × (l.sizes.items ≡ take l.i (sizes_in l.plan look scheme l.at.window l.at.number))
