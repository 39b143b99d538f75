-- When an iteration of a scheme can be judged, and by which senders' gifts. The project's own.
use Rattle.std.specs.Prelude.{◌≡◌, ◌-◌, ◌≤◌, List, Option, Some, slice_get}
use Rattle.cpl_plan.specs.declared.parts.PlanParts.{PlanParts}
use Rattle.cpl_plan.specs.declared.parts.Scheme.{Scheme}
use Rattle.coupled_loop.specs.Given.{Look}
use Rattle.sample_store.specs.Kept.{Kept}
use Rattle.wave_coupling.specs.Posts.{Post}
use Rattle.group_course.specs.declared.iteration.Iteration.{Iteration}
use Rattle.group_course.specs.CourseKept.{CourseKept}
use Rattle.group_course.specs.StoresTell.{StoresTell}
use Rattle.group_course.specs.Held.{AreHeld}
use Rattle.group_course.specs.Shapes.{AreShaped}
use Rattle.group_course.specs.CourseTells.{CourseTells}

module _ (plan : PlanParts) (stores : List (Option Kept)) (at : Iteration) (course : CourseKept) where
  -- the stores tell what the senders gave, and after the first iteration the course tells of the one before
  pub record Tells (look : Look Post) : Type 0 where
    pub posts : StoresTell plan look at.scheme stores
    pub before : (scheme : Scheme) → slice_get plan.schemes at.scheme ≡ Some scheme → 2 ≤ at.number → CourseTells plan look scheme at.window at.start (at.number - 1) course

  -- they do so of some gifts that have the plan's shapes, and the stores hold what is judged
  pub record IsReady : Type 0 where
    pub look : Look Post
    pub tells : Tells look
    pub held : AreHeld plan at.scheme at.window at.number stores
    pub shaped : AreShaped plan look at.scheme at.window at.start at.number
