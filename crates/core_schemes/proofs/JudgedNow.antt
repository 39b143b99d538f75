-- An iteration that is judged for the first time, and what its scheme keeps then.
use Rattle.std.proofs.Common.{◌≡◌, ℕ, inl, List, slice_get, Option, Some, None, sym, ap, subst, ◌∙◌}
use Rattle.cpl_plan.specs.ValidPlan.{IsValidPlan}
use Rattle.cpl_plan.specs.declared.parts.PlanParts.{PlanParts}
use Rattle.cpl_plan.specs.declared.parts.Scheme.{Scheme}
use Rattle.cpl_plan.specs.declared.words.Fault.{Fault}
use Rattle.cpl_plan.specs.declared.words.Verdict.{Verdict}
use Rattle.cpl_plan.specs.declared.words.Verdict.TheVariants.{NotConverged}
use Rattle.acceleration.specs.Outside.{Location}
use Rattle.coupled_loop.specs.Endings.{Judgement, again}
use Rattle.coupled_loop.specs.CoreState.{look_in}
use Rattle.sample_store.specs.Kept.{Kept as StoreKept}
use Rattle.wave_coupling.specs.InputWave.{relaxed_after}
use Rattle.wave_coupling.specs.Judged.{verdict_in, judgement_of as judgement_in, judged_by}
use Rattle.wave_coupling.specs.Coupling.{start_of, judge_of}
use Rattle.group_course.specs.declared.iteration.Iteration.{Iteration}
use Rattle.group_course.specs.CourseKept.{CourseKept}
use Rattle.group_course.specs.CourseTells.{CourseTells}
use Rattle.group_course.specs.JudgementOf.{judgement_by}
use Rattle.group_course.specs.Ready.{IsReady}
use Rattle.core_sides.specs.CoreWords.{WaveState}
use Rattle.core_fits.specs.VerticesIn.{vertices_in}
use Rattle.core_fits.proofs.ReachedFits.{reached_fits, vertices_few}
use Rattle.core_schemes.specs.declared.schemes.LastJudged.{LastJudged}
use Rattle.core_schemes.specs.declared.schemes.SchemeState.{SchemeState}
use Rattle.core_schemes.specs.SchemesStand.{IsLastJudged, IsSchemeOf}
use Rattle.core_schemes.specs.Judging.{HasJudged, MayJudge, CanJudge}
use Rattle.core_schemes.proofs.Ready.{scheme_there, stands_at, is_implicit_scheme, have_posted, members_there, is_ready}

pub can_be_judged : (plan : PlanParts) → IsValidPlan plan → (stores : List (Option StoreKept)) (state : SchemeState) (at : Iteration) → CanJudge plan stores state at
    → (HasJudged at state.last → ⊥) → IsReady plan stores at state.course
can_be_judged plan valid stores state at can new =
    is_ready plan valid stores state at can.sides can.may new (vertices_in plan can.sides) (reached_fits plan valid can.may.history can.sides can.may.reached)
    (vertices_few plan valid can.may.history can.sides can.may.reached)

-- a strict measure that fails is a fault
strict_fault : (fault : Option Fault) (verdict : Verdict) (measure : ℕ) (plan : PlanParts) (sides : WaveState) (number w k : ℕ) (scheme : Scheme) (outside : Option Location) (own : Verdict)
    → fault ≡ None → verdict ≡ NotConverged measure → verdict ≡ own → judgement_by fault verdict ≡ judgement_in plan (look_in sides) number w k scheme outside own → ⊥
strict_fault fault verdict measure plan sides number w k scheme outside own none fails same is =
    let repeated : judgement_by None (NotConverged measure) ≡ judgement_in plan (look_in sides) number w k scheme outside (NotConverged measure) =
    ap (λ (f : Option Fault). judgement_by f (NotConverged measure)) (sym none) ∙ ap (λ (v : Verdict). judgement_by fault v) (sym fails) ∙ is
    ∙ ap (λ (v : Verdict). judgement_in plan (look_in sides) number w k scheme outside v) (sym same ∙ fails) in
    cc

module _ (plan : PlanParts) (valid : IsValidPlan plan) (stores : List (Option StoreKept)) (state : SchemeState) (at : Iteration) (sides : WaveState) (may : MayJudge plan stores state at sides) where
  -- what was judged before is told again
  pub told_again : (last : LastJudged) → state.last ≡ Some last → HasJudged at (Some last) → judgement_by last.fault last.verdict ≡ judge_of plan (look_in sides) at.scheme at.window at.number
  told_again last last_is turn =
      let scheme = scheme_there plan valid stores state at sides may in
      let is = subst (λ (o : Option LastJudged). IsSchemeOf plan sides at.scheme scheme.0 state o) last_is (may.scheme_stands scheme.0 scheme.1) in
      subst (λ (k : ℕ). judgement_by last.fault last.verdict ≡ judge_of plan (look_in sides) at.scheme at.window k) turn.1
      (subst (λ (w : ℕ). judgement_by last.fault last.verdict ≡ judge_of plan (look_in sides) at.scheme w last.iteration) turn.0 is.judgement)

  -- a judgement by the window's start as it is kept
  pub judged_of_start : (judgement : Judgement Fault) → judgement ≡ judged_by plan (look_in sides) at.scheme at.window at.start at.number (slice_get plan.schemes at.scheme)
      → judgement ≡ judge_of plan (look_in sides) at.scheme at.window at.number
  judged_of_start judgement judged = judged ∙ ap (λ (start : ℕ). judged_by plan (look_in sides) at.scheme at.window start at.number (slice_get plan.schemes at.scheme)) may.start

module _ (plan : PlanParts) (valid : IsValidPlan plan) (stores : List (Option StoreKept)) (state : SchemeState) (at : Iteration) (sides : WaveState) (may : MayJudge plan stores state at sides)
    (new : HasJudged at state.last → ⊥) (scheme : Scheme) (there : slice_get plan.schemes at.scheme ≡ Some scheme) (verdict : Verdict) (fault : Option Fault) (after : CourseKept) where
  pub last_judged_now : (last : LastJudged) → last ≡ record { window = at.window; iteration = at.number; verdict = verdict; fault = fault }
      → judgement_by fault verdict ≡ judged_by plan (look_in sides) at.scheme at.window at.start at.number (slice_get plan.schemes at.scheme)
      → verdict ≡ verdict_in plan (look_in sides) scheme at.window at.start at.number
      → (judgement_by fault verdict ≡ again → CourseTells plan (look_in sides) scheme at.window at.start at.number after)
      → (kept : SchemeState) → kept.course ≡ after → IsLastJudged plan sides at.scheme scheme kept last
  last_judged_now last last_is judged says repeats kept course =
      subst (λ (l : LastJudged). IsLastJudged plan sides at.scheme scheme kept l) (sym last_is) (record {
        implicit = is_implicit_scheme plan valid stores state at sides may;
        window = (stands_at plan valid stores state at sides may).1.window;
        iteration = (stands_at plan valid stores state at sides may).2.iteration;
        there = λ later extends in_order. sym ((stands_at plan valid stores state at sides may).1.decided later extends in_order) ∙ (stands_at plan valid stores state at sides may).2.window;
        posted = have_posted plan valid stores state at sides may;
        judgement = own;
        strict = λ measure none fails.
            strict_fault fault verdict measure plan sides at.scheme at.window at.number scheme (relaxed_after plan (look_in sides) scheme at.window at.start at.number).outside
            (verdict_in plan (look_in sides) scheme at.window at.start at.number) none fails says
            (judged ∙ ap (λ (o : Option Scheme). judged_by plan (look_in sides) at.scheme at.window at.start at.number o) there);
        repeats = λ repeated.
            subst (λ (c : CourseKept). CourseTells plan (look_in sides) scheme at.window (start_of plan (look_in sides) at.window) at.number c) (sym course)
            (subst (λ (start : ℕ). CourseTells plan (look_in sides) scheme at.window start at.number after) may.start (repeats (own ∙ repeated)));
        members = λ one below grouped. inl (members_there plan valid stores state at sides may new one below grouped);
      })
    where
      own : judgement_by fault verdict ≡ judge_of plan (look_in sides) at.scheme at.window at.number
      own = judged_of_start plan valid stores state at sides may (judgement_by fault verdict) judged
