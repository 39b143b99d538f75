-- The verdict, from what its measures look at.
use Rattle.std.proofs.Common.{◌≡◌, ℕ, List, ap, ◌∙◌}
use Rattle.std.specs.Prelude.{slice_get}
use Rattle.cpl_plan.specs.declared.parts.PlanParts.{PlanParts}
use Rattle.cpl_plan.specs.declared.parts.Measure.{Measure}
use Rattle.cpl_plan.specs.declared.parts.Scheme.{Scheme}
use Rattle.convergence.specs.declared.measured.Measured.{Measured}
use Rattle.convergence.specs.Holds.{measured}
use Rattle.convergence.specs.Verdict.{verdict}
use Rattle.coupled_loop.specs.Given.{Look}
use Rattle.wave_coupling.specs.Posts.{Post}
use Rattle.wave_coupling.specs.Judged.{change_in, size_in, verdict_in}
use Rattle.group_course.specs.CourseTells.{changes_in}
use Rattle.group_course.specs.Norms.{sizes_in}
use Rattle.group_course.proofs.Maps.{measured-map}

module _ (plan : PlanParts) (look : Look Post) (scheme : Scheme) (w start k : ℕ) where
  pub verdict_is : (ms : List Measure) (ns ss fs : List ℕ) → ms ≡ scheme.measures → ns ≡ changes_in plan look scheme w start k → ss ≡ sizes_in plan look scheme w k
      → fs ≡ changes_in plan look scheme w start 1 → verdict (measured ms ns ss fs) k scheme.min scheme.max ≡ verdict_in plan look scheme w start k
  verdict_is ms ns ss fs one two three four =
      ap (λ (all : List Measured). verdict all k scheme.min scheme.max)
      (ap (λ (xs : List Measure). measured xs ns ss fs) one
      ∙ ap (λ (xs : List ℕ). measured scheme.measures xs ss fs) two
      ∙ ap (λ (xs : List ℕ). measured scheme.measures (changes_in plan look scheme w start k) xs fs) three
      ∙ ap (λ (xs : List ℕ). measured scheme.measures (changes_in plan look scheme w start k) (sizes_in plan look scheme w k) xs) four
      ∙ measured-map (λ m. change_in plan look m.exchange w start k (slice_get plan.exchanges m.exchange)) (λ m. size_in plan look m.exchange w k (slice_get plan.exchanges m.exchange))
      (λ m. change_in plan look m.exchange w start 1 (slice_get plan.exchanges m.exchange)) scheme.measures)
