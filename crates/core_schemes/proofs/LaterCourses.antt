-- What a course tells stays true while participants give more: what it looks at was posted by all members.
use Rattle.std.proofs.Common.{◌≡◌, ℕ, suc, ◌-◌, ◌≤◌, List, [], ◌∷◌, map, slice_get, Option, Some, IsSome, refl, ap, sym, ◌∙◌, arith}
use Rattle.std.specs.Prelude.{ℤ}
use Rattle.std.specs.Option.{option_map_or}
use Rattle.cpl_plan.specs.ValidPlan.{IsValidPlan}
use Rattle.cpl_plan.specs.declared.parts.PlanParts.{PlanParts}
use Rattle.cpl_plan.specs.declared.parts.Exchange.{Exchange}
use Rattle.cpl_plan.specs.declared.parts.Scheme.{Scheme}
use Rattle.cpl_plan.specs.declared.words.Item.TheVariants.{Posted}
use Rattle.convergence.specs.Change.{change_of}
use Rattle.coupled_loop.specs.Given.{Look}
use Rattle.coupled_loop.specs.Settled.{Extends, IsInOrder, HavePostedBelow}
use Rattle.wave_coupling.specs.Root.{norm}
use Rattle.wave_coupling.specs.Posts.{Post, newest_values}
use Rattle.wave_coupling.specs.InputWave.{Sent, completed, posted, over}
use Rattle.wave_coupling.specs.Judged.{change_in}
use Rattle.wave_coupling.specs.Coupling.{wave_frame}
use Rattle.wave_laws.proofs.Relaxing.{completed_same, posted_same, relaxed_same}
use Rattle.wave_laws.proofs.Senders.{is_exchange, sender_in, accelerated_scheme}
use Rattle.wave_laws.proofs.Stills.{map_same}
use Rattle.group_course.specs.CourseKept.{CourseKept}
use Rattle.group_course.specs.CourseTells.{CourseTells, changes_in, outline, posted_wave}
use Rattle.group_course.proofs.OfPlan.{measured_own}
use Rattle.group_course.proofs.OldValues.{old_first}

same_at : {X Y : Type 0} (f g : X → Y) (xs : List X) → ((i : ℕ) (x : X) → slice_get xs i ≡ Some x → f x ≡ g x) → map f xs ≡ map g xs
same_at f g [] same = refl
same_at f g (x ∷ xs) same = ap (λ y. y ∷ map f xs) (same 0 x refl) ∙ ap (λ ys. g x ∷ ys) (same_at f g xs (λ i y at. same (suc i) y at))

module _ (plan : PlanParts) (valid : IsValidPlan plan) (f g : Look Post) (extends : Extends f g) (order : IsInOrder f)
    (number : ℕ) (scheme : Scheme) (stands : slice_get plan.schemes number ≡ Some scheme) (w start k : ℕ) (some : 1 ≤ k)
    (given : HavePostedBelow (wave_frame plan) f number w (suc k)) where
  posts_of : (x j : ℕ) (e : Exchange) → slice_get plan.exchanges x ≡ Some e → e.scheme ≡ number → 1 ≤ j → j ≤ k → IsSome (f e.from (Posted w j))
  posts_of x j e at own low high = given e.from j (sender_in plan valid e number (is_exchange plan valid x e at) own) low (omega (arith, high))

  first_same : (x : ℕ) (e : Exchange) → slice_get plan.exchanges x ≡ Some e → e.scheme ≡ number
      → change_in plan f x w start 1 (slice_get plan.exchanges x) ≡ change_in plan g x w start 1 (slice_get plan.exchanges x)
  first_same x e at own =
      let posts : IsSome (f e.from (Posted w 1)) = posts_of x 1 e at own (omega arith) some in
      ap (λ (o : Option Exchange). change_in plan f x w start 1 o) at
      ∙ ap (λ (old : List ℤ). norm (change_of (newest_values (posted plan f e x w 1).wave) old)) (old_first plan f e x w start 1 e.kind refl at refl)
      ∙ ap (λ (s : Sent). norm (change_of (newest_values s.wave) (newest_values (completed plan f e x (w - 1)).wave))) (posted_same plan f g extends e x w 1 posts)
      ∙ ap (λ (s : Sent). norm (change_of (newest_values (posted plan g e x w 1).wave) (newest_values s.wave)))
      (completed_same plan f g extends e x (w - 1) (order.turns e.from w 1 posts).2)
      ∙ sym (ap (λ (old : List ℤ). norm (change_of (newest_values (posted plan g e x w 1).wave) old)) (old_first plan g e x w start 1 e.kind refl at refl))
      ∙ sym (ap (λ (o : Option Exchange). change_in plan g x w start 1 o) at)

  firsts_same : changes_in plan f scheme w start 1 ≡ changes_in plan g scheme w start 1
  firsts_same =
      same_at _ _ scheme.measures (λ i measure at.
      let own = measured_own plan valid number scheme stands i measure at in first_same measure.exchange own.exchange own.there own.own)

  waves_same : map (λ x. outline (posted_wave plan f w k x)) (over scheme.accel) ≡ map (λ x. outline (posted_wave plan g w k x)) (over scheme.accel)
  waves_same =
      map_same _ _ (over scheme.accel) (λ x inside.
      let at = accelerated_scheme plan valid number x scheme stands inside in
      ap (λ (o : Option Exchange). outline (option_map_or (λ e. (posted plan f e x w k).wave) o [])) at.1
      ∙ ap (λ (s : Sent). outline s.wave) (posted_same plan f g extends at.0 x w k (posts_of x k at.0 at.1 at.2 some (omega arith)))
      ∙ sym (ap (λ (o : Option Exchange). outline (option_map_or (λ e. (posted plan g e x w k).wave) o [])) at.1))

  pub course_later : (course : CourseKept) → CourseTells plan f scheme w start k course → CourseTells plan g scheme w start k course
  course_later course tells = record {
    relaxed = sym (relaxed_same plan f g extends valid order number scheme stands w start k given) ∙ tells.relaxed;
    firsts = tells.firsts ∙ firsts_same;
    outlines = tells.outlines ∙ waves_same;
  }
