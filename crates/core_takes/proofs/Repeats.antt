-- The samples of a repeated window have the outline of what was posted in the iteration before.
use Rattle.std.proofs.Common.{◌≡◌, ℕ, nat_eq, List, [], get_or, map, position, Option, Some, None, option_map, refl, ap, sym, ◌∙◌}
use Rattle.std.specs.Prelude.{slice_get, slice_index_or}
use Rattle.std.specs.Option.{option_map_or}
use Rattle.std.proofs.lemmas.Option.{slice_get-map, get_or_from_slice_get}
use Rattle.std.proofs.Math.ListN.{get_or-map}
use Rattle.cpl_plan.specs.declared.parts.PlanParts.{PlanParts}
use Rattle.cpl_plan.specs.declared.parts.Exchange.{Exchange}
use Rattle.cpl_plan.specs.declared.parts.Scheme.{Scheme}
use Rattle.coupled_loop.specs.Given.{Look}
use Rattle.wave_coupling.specs.Posts.{Post}
use Rattle.wave_coupling.specs.InputWave.{Relaxed, posted, over, relaxed_after, iterated_samples}
use Rattle.wave_laws.proofs.RelaxedFits.{found_place}
use Rattle.group_course.specs.CourseKept.{CourseKept}
use Rattle.group_course.specs.CourseTells.{outline, posted_wave, CourseTells}

module _ (plan : PlanParts) (look : Look Post) (scheme : Scheme) (w start k : ℕ) (course : CourseKept) (tells : CourseTells plan look scheme w start k course)
    (x : ℕ) (e : Exchange) (at : slice_get plan.exchanges x ≡ Some e) where
  relaxed_outline : (place : ℕ) → slice_get (over scheme.accel) place ≡ Some x → outline (get_or course.waves place []) ≡ outline (posted plan look e x w k).wave
  relaxed_outline place there =
      sym (get_or-map outline course.waves place []) ∙ ap (λ (ls : List (List (ℕ × (ℕ × ℕ)))). get_or ls place (outline [])) tells.outlines
      ∙ get_or_from_slice_get (map (λ y. outline (posted_wave plan look w k y)) (over scheme.accel)) place (outline (posted_wave plan look w k x)) (outline [])
      (slice_get-map (λ y. outline (posted_wave plan look w k y)) (over scheme.accel) place ∙ ap (λ (o : Option ℕ). option_map (λ y. outline (posted_wave plan look w k y)) o) there)
      ∙ ap (λ (o : Option Exchange). outline (option_map_or (λ e. (posted plan look e x w k).wave) o [])) at

  pub iterated_outline : outline (iterated_samples plan look e x w start k (Some scheme)) ≡ outline (posted plan look e x w k).wave
  iterated_outline = by (position (nat_eq x) (over scheme.accel)) refl where
    by : (o : Option ℕ) → position (nat_eq x) (over scheme.accel) ≡ o
        → outline (option_map_or (λ place. slice_index_or (relaxed_after plan look scheme w start k).waves place []) o (posted plan look e x w k).wave)
        ≡ outline (posted plan look e x w k).wave
    by None none = refl
    by (Some place) found =
        ap (λ (r : Relaxed). outline (slice_index_or r.waves place [])) tells.relaxed ∙ relaxed_outline place (found_place x (over scheme.accel) place found)
