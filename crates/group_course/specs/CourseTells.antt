-- What a course keeps after an iteration that is to be repeated. The project's own.
use Rattle.std.specs.Prelude.{◌≡◌, ℕ, List, [], map, length, slice_get, None}
use Rattle.std.specs.Option.{option_map_or}
use Rattle.cpl_plan.specs.declared.parts.PlanParts.{PlanParts}
use Rattle.cpl_plan.specs.declared.parts.Scheme.{Scheme}
use Rattle.coupled_loop.specs.Given.{Look}
use Rattle.wave_coupling.specs.Posts.{Wave, Post}
use Rattle.wave_coupling.specs.InputWave.{posted, over, relaxed_after}
use Rattle.wave_coupling.specs.Judged.{change_in}
use Rattle.group_course.specs.CourseKept.{CourseKept}

-- the times of a wave, and how many components and values it has at each
abbrev pub outline : Wave → List (ℕ × (ℕ × ℕ))
outline wave = map (λ s. (s.time, (s.field.components, length s.field.values))) wave

module _ (plan : PlanParts) (look : Look Post) where
  -- the change of each measured exchange in iteration k
  abbrev pub changes_in : Scheme → (w start k : ℕ) → List ℕ
  changes_in scheme w start k = map (λ m. change_in plan look m.exchange w start k (slice_get plan.exchanges m.exchange)) scheme.measures

  -- what was posted of exchange x in iteration k
  abbrev pub posted_wave : (w k x : ℕ) → Wave
  posted_wave w k x = option_map_or (λ e. (posted plan look e x w k).wave) (slice_get plan.exchanges x) []

  -- what is kept is what relaxation has made of the iterations up to k, none of it out of range, and the changes of the first
  pub record CourseTells (scheme : Scheme) (w start k : ℕ) (course : CourseKept) : Type 0 where
    pub relaxed : relaxed_after plan look scheme w start k ≡ record { waves = course.waves; relaxer = course.relaxer; outside = None }
    pub firsts : course.firsts ≡ changes_in scheme w start 1
    -- the relaxed waves have the times and the sizes of those that were posted
    pub outlines : map outline course.waves ≡ map (λ x. outline (posted_wave w k x)) (over scheme.accel)
