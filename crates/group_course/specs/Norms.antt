-- What the measures of a scheme look at. From the coupling documentation's convergence measures.
use Rattle.std.specs.Prelude.{◌≡◌, ℕ, List, map, slice_get, Option, Some}
use Rattle.cpl_plan.specs.declared.parts.PlanParts.{PlanParts}
use Rattle.cpl_plan.specs.declared.parts.Exchange.{Exchange}
use Rattle.cpl_plan.specs.declared.parts.Scheme.{Scheme}
use Rattle.coupled_loop.specs.Given.{Look}
use Rattle.sample_store.specs.Kept.{Kept}
use Rattle.wave_coupling.specs.Posts.{Post}
use Rattle.wave_coupling.specs.Judged.{size_in}
use Rattle.group_course.specs.declared.iteration.Iteration.{Iteration}
use Rattle.group_course.specs.CourseKept.{CourseKept}
use Rattle.group_course.specs.CourseTells.{changes_in}
use Rattle.group_course.specs.Ready.{Tells}

-- the size of each measured exchange's new values in iteration k
abbrev pub sizes_in : PlanParts → Look Post → Scheme → (w k : ℕ) → List ℕ
sizes_in plan look scheme w k = map (λ m. size_in plan look m.exchange w k (slice_get plan.exchanges m.exchange)) scheme.measures

-- exchange x is one of the scheme's
pub record IsExchangeOf (plan : PlanParts) (scheme x : ℕ) : Type 0 where
  pub exchange : Exchange
  pub there : slice_get plan.exchanges x ≡ Some exchange
  pub own : exchange.scheme ≡ scheme

-- the changes and sizes of an iteration, by all that the stores tell
abbrev pub AreNorms : (plan : PlanParts) (stores : List (Option Kept)) (at : Iteration) (course : CourseKept) (changes sizes : List ℕ) → Type 0
AreNorms plan stores at course changes sizes =
    (look : Look Post) (scheme : Scheme) → Tells plan stores at course look → slice_get plan.schemes at.scheme ≡ Some scheme
    → (changes ≡ changes_in plan look scheme at.window at.start at.number) × (sizes ≡ sizes_in plan look scheme at.window at.number)
