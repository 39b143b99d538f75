-- What is relaxed in an iteration: of each accelerated exchange its degree, what was read and what was posted. From the coupling documentation's acceleration of whole waveforms.
use Rattle.std.specs.Prelude.{◌≡◌, ℕ, ◌≤◌, ◌++◌, ◌==◌, if◌then◌else◌, List, [], map, length, position, nat_eq, slice_get, slice_index_or, sum_by, Option, Some, All}
use Rattle.std.specs.Option.{option_map_or}
use Rattle.cpl_plan.specs.declared.parts.PlanParts.{PlanParts}
use Rattle.cpl_plan.specs.declared.parts.Scheme.{Scheme}
use Rattle.acceleration.specs.Exchanged.{exchanged, CanRelax}
use Rattle.acceleration.specs.Residual.{width}
use Rattle.coupled_loop.specs.Given.{Look}
use Rattle.sample_store.specs.Kept.{Kept}
use Rattle.wave_coupling.specs.Posts.{Wave, Post}
use Rattle.wave_coupling.specs.InputWave.{accepted_before, over}
use Rattle.group_course.specs.declared.iteration.Iteration.{Iteration}
use Rattle.group_course.specs.CourseKept.{CourseKept}
use Rattle.group_course.specs.CourseTells.{posted_wave}
use Rattle.group_course.specs.Ready.{Tells}

abbrev pub degree_in : PlanParts → (x : ℕ) → ℕ
degree_in plan x = option_map_or (λ e. option_map_or (λ d. d.degree) (slice_get plan.data_list e.data_id) 0) (slice_get plan.exchanges x) 0

-- the relaxed wave of exchange x among those of the iteration before
abbrev pub relaxed_of : Scheme → List Wave → (x : ℕ) → Wave
relaxed_of scheme waves x = option_map_or (λ place. slice_index_or waves place []) (position (nat_eq x) (over scheme.accel)) []

-- e, and then the relaxed wave
abbrev pub read_in : PlanParts → Look Post → Scheme → (w start : ℕ) → List Wave → (x : ℕ) → Wave
read_in plan look scheme w start waves x = option_map_or (λ e. accepted_before plan look e x w start ++ relaxed_of scheme waves x) (slice_get plan.exchanges x) []

-- in the first iteration nothing is relaxed yet
abbrev pub waves_before : (k : ℕ) → List Wave → List Wave
waves_before k waves = if k == 1 then [] else waves

-- what the lists of an iteration are, by all that the stores tell
pub record AreTakenOf (plan : PlanParts) (look : Look Post) (scheme : Scheme) (at : Iteration) (waves : List Wave) (degrees : List ℕ) (read posted : List Wave) : Type 0 where
  pub degrees_are : degrees ≡ map (degree_in plan) (over scheme.accel)
  pub read_are : read ≡ map (read_in plan look scheme at.window at.start (waves_before at.number waves)) (over scheme.accel)
  pub posted_are : posted ≡ map (posted_wave plan look at.window at.number) (over scheme.accel)

abbrev pub AreTaken : (plan : PlanParts) (stores : List (Option Kept)) (at : Iteration) (course : CourseKept) (degrees : List ℕ) (read posted : List Wave) → Type 0
AreTaken plan stores at course degrees read posted =
    (look : Look Post) (scheme : Scheme) → Tells plan stores at course look → slice_get plan.schemes at.scheme ≡ Some scheme
    → AreTakenOf plan look scheme at course.waves degrees read posted

-- they can be relaxed
pub record AreRelaxable (degrees : List ℕ) (read posted : List Wave) : Type 0 where
  pub few : length posted ≤ 256
  pub one_degree : length degrees ≡ length posted
  pub one_read : length read ≡ length posted
  pub filled : All (λ e. 1 ≤ length e.taken) (exchanged degrees read posted)
  pub exchanges : All CanRelax (exchanged degrees read posted)
  pub few_values : sum_by width posted ≤ 200000
