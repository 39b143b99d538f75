use Rattle.std.proofs.Common.{◌≡◌, ℕ, ◌++◌, ◌∷◌, [], List, get_or, take, Some, ap, sym, ◌∙◌}
use Rattle.std.specs.Prelude.{slice_get}
use Rattle.std.proofs.lemmas.Option.{same_Some, slice_get-get_or}
use Rattle.cpl_plan.specs.declared.parts.Measure.{Measure}
use Rattle.cpl_plan.specs.declared.parts.Scheme.{Scheme}
use Rattle.wave_coupling.specs.Judged.{change_in, size_in}
use Rattle.group_course.specs.CourseTells.{changes_in}
use Rattle.group_course.specs.Norms.{sizes_in}
use Rattle.group_course.proofs.Maps.{taken_next}
use Rattle.group_course.proofs.OfPlan.{measured_own}
use Rattle.group_course.proofs.course.Course.norms.Goals as goal

pub norms_at-change-requires-clause-exchange : goal.norms_at-change-requires-clause-exchange
norms_at-change-requires-clause-exchange c =
    let s = c.scheme_of.result.now in
    let ms = c.as_slice-measures.result.now in
    let i = c.loop-i.i in
    let m = get_or ms i c.index-measures-i.result in
    let here : slice_get s.measures i ≡ Some m =
    ap (λ (xs : List Measure). slice_get xs i) (sym c.as_slice-measures.ensures) ∙ slice_get-get_or ms i c.index-measures-i.result c.loop-i-test.true in
    measured_own c.args.plan.now c.scheme_of.ensures.valid c.args.at.scheme s c.scheme_of.ensures.there i m here

pub loop-i-preserved : goal.loop-i-preserved
loop-i-preserved c = λ look scheme tells is.
    let at = c.args.at in
    let plan = c.args.plan.now in
    let s = c.scheme_of.result.now in
    let ms = c.as_slice-measures.result.now in
    let i = c.loop-i.i in
    let m = get_or ms i c.index-measures-i.result in
    let same : scheme ≡ s = same_Some scheme s (sym is ∙ c.scheme_of.ensures.there) in
    let here : slice_get scheme.measures i ≡ Some m =
    ap (λ (z : Scheme). slice_get z.measures i) same
    ∙ ap (λ (xs : List Measure). slice_get xs i) (sym c.as_slice-measures.ensures) ∙ slice_get-get_or ms i c.index-measures-i.result c.loop-i-test.true in
    let before = c.loop-i.invariant look scheme tells is in (
      c.in_ok-push.ensures.items ∙ ap (λ (ns : List ℕ). ns ++ c.norms_at-change.result.0 ∷ []) before.0
          ∙ ap (λ (n : ℕ). take i (changes_in plan look scheme at.window at.start at.number) ++ n ∷ []) (c.norms_at-change.ensures.change look tells)
          ∙ sym (taken_next (λ z. change_in plan look z.exchange at.window at.start at.number (slice_get plan.exchanges z.exchange)) scheme.measures i m here),
      c.in_ok-push-2.ensures.items ∙ ap (λ (ns : List ℕ). ns ++ c.norms_at-change.result.1 ∷ []) before.1
          ∙ ap (λ (n : ℕ). take i (sizes_in plan look scheme at.window at.number) ++ n ∷ []) (c.norms_at-change.ensures.size look tells)
          ∙ sym (taken_next (λ z. size_in plan look z.exchange at.window at.number (slice_get plan.exchanges z.exchange)) scheme.measures i m here),
    )
