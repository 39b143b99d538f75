-- What a relaxation that fails tells.
use Rattle.std.proofs.Common.{◌≡◌, ◌≢◌, ◌↔◌, ℕ, List, Option, Some, Result, Ok, Err, IfOk, IsErr, refl, sym, subst, ◌∙◌}
use Rattle.std.proofs.lemmas.Result.{IfOk-from_err}
use Rattle.acceleration.specs.declared.error.AccErr.{AccErr}
use Rattle.acceleration.specs.declared.error.AccErr.TheVariants.{Overflow, Memory}
use Rattle.acceleration.specs.Exchanged.{Exchanged}
use Rattle.acceleration.specs.RelaxerState.{RelaxerState}
use Rattle.acceleration.specs.RelaxedIterate.{relaxed_iterate}
use Rattle.group_course.specs.declared.relaxing.OutOfRange.{OutOfRange}
use Rattle.group_course.specs.CourseKept.{CourseKept}
use Rattle.group_course.specs.Outcome.{HasRelaxed}

pub failed : {X M : Type 0} (error : AccErr) (made : Result X AccErr) (told : Result (Option OutOfRange) M) (relaxer : RelaxerState) (exchanges : List Exchanged) (firsts : List ℕ) (before after : CourseKept)
    → made ≡ Err error
    → (made ≢ Err Memory → (place time component : ℕ) → (made ≡ Err (Overflow place time component)) ↔ (relaxed_iterate relaxer exchanges ≡ Err (record { place = place; time = time; component = component })))
    → ((place time component : ℕ) → error ≡ Overflow place time component → told ≡ Ok (Some (record { place = place; time = time; component = component })))
    → (error ≡ Memory → IsErr told) → after ≡ before
    → IfOk told (HasRelaxed relaxer exchanges firsts before after)
failed Memory made told relaxer exchanges firsts before after is overflow outside memory same = IfOk-from_err told (HasRelaxed relaxer exchanges firsts before after) (memory refl)
failed (Overflow place time component) made told relaxer exchanges firsts before after is overflow outside memory same =
    let fits : made ≢ Err Memory = λ none. apart (sym is ∙ none) in
    subst (λ r. IfOk r (HasRelaxed relaxer exchanges firsts before after)) (sym (outside place time component refl))
    ((overflow fits place time component).0 is, same)
  where
    apart : {X : Type 0} {place time component : ℕ} → ◌≡◌ {A = Result X AccErr} (Err (Overflow place time component)) (Err Memory) → ⊥
    apart e = cc
