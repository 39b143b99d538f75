-- Whatever is judged, what the scheme keeps then can be written down.
use Rattle.std.proofs.Common.{◌≡◌, ℕ, ◌+◌, ◌-◌, ◌≤◌, inl, inr, List, [], ◌∷◌, map, length, length-append, get_or, slice_get, Option, Some, None, Result, Ok, Err, ℤ, All, refl, sym, ap, subst, ◌∙◌, arith}
use Rattle.std.specs.Prelude.{sum_by}
use Rattle.std.specs.List.{zip}
use Rattle.std.specs.Option.{IfSome}
use Rattle.std.proofs.lemmas.List.{length-map, get_or-map}
use Rattle.std.proofs.lemmas.List.Elements.{All-head, All-tail}
use Rattle.std.proofs.lemmas.List.Sums.{sum_by-cons}
use Rattle.std.proofs.lemmas.Slice.Zip.{length-zip}
use Rattle.cpl_plan.specs.ValidPlan.{IsValidPlan}
use Rattle.cpl_plan.specs.declared.parts.PlanParts.{PlanParts}
use Rattle.cpl_plan.specs.declared.parts.Scheme.{Scheme}
use Rattle.cpl_plan.specs.declared.words.Fault.{Fault}
use Rattle.cpl_plan.specs.declared.words.Verdict.{Verdict}
use Rattle.cpl_plan.specs.declared.words.Verdict.TheVariants.{Again, Converged, AtLimit, NotConverged}
use Rattle.waveform.specs.IsWave.{first_time, last_time}
use Rattle.waveform.specs.WaveValue.{read}
use Rattle.waveform.specs.declared.sample.Sample.{Sample}
use Rattle.acceleration.specs.Exchanged.{Exchanged, exchange_of, exchanged, CanRelax}
use Rattle.acceleration.specs.Factors.{memory_by}
use Rattle.acceleration.specs.Outside.{Location, located, first_outside}
use Rattle.acceleration.specs.RelaxedIterate.{Iterate, relaxed_iterate, waves_of, unless_outside}
use Rattle.acceleration.specs.RelaxerState.{RelaxerState}
use Rattle.acceleration.specs.Residual.{residual, width, end_values, end_difference, less}
use Rattle.acceleration.specs.declared.method.Method.{Method}
use Rattle.acceleration.specs.declared.method.Method.TheVariants.{Plain, Constant, Aitken}
use Rattle.acceleration.proofs.Widths.{width_of_taken}
use Rattle.coupled_loop.specs.Endings.{Judgement, again, converged, at_limit, refused}
use Rattle.coupled_loop.specs.Given.{Look}
use Rattle.sample_store.specs.Kept.{Kept as StoreKept}
use Rattle.wave_coupling.specs.InputWave.{over}
use Rattle.wave_coupling.specs.Judged.{verdict_in, judgement_of as judgement_in, judged_by}
use Rattle.wave_coupling.specs.Posts.{Post, Wave}
use Rattle.group_course.specs.declared.iteration.Iteration.{Iteration}
use Rattle.group_course.specs.CourseKept.{CourseKept, IsKept}
use Rattle.group_course.specs.CourseTells.{CourseTells, changes_in, posted_wave}
use Rattle.group_course.specs.JudgementOf.{judgement_by}
use Rattle.group_course.specs.Outcome.{relaxer_at, firsts_at}
use Rattle.group_course.specs.Ready.{IsReady}
use Rattle.group_course.specs.Taken.{degree_in, read_in, waves_before, AreRelaxable}
use Rattle.group_course.proofs.ReadLengths.{read-length}
use Rattle.group_course.proofs.Relaxables.{relaxable}
use Rattle.group_course.proofs.RelaxedSteps.{outside_is, told_next, widths-kept}

abbrev pub fault_in : Judgement Fault → Option Fault
fault_in again = None
fault_in converged = None
fault_in at_limit = None
fault_in (refused fault) = Some fault

pub fault_told : (plan : PlanParts) (look : Look Post) (number w k : ℕ) (scheme : Scheme) (outside : Option Location) (verdict : Verdict)
    → judgement_by (fault_in (judgement_in plan look number w k scheme outside verdict)) verdict ≡ judgement_in plan look number w k scheme outside verdict
fault_told plan look number w k scheme None Again = refl
fault_told plan look number w k scheme (Some location) Again = refl
fault_told plan look number w k scheme outside Converged = refl
fault_told plan look number w k scheme outside AtLimit = refl
fault_told plan look number w k scheme outside (NotConverged measure) = refl

-- where a value is out of range the window is not repeated
pub outside_ends : (plan : PlanParts) (look : Look Post) (number w k : ℕ) (scheme : Scheme) (location : Location) (verdict : Verdict)
    → judgement_in plan look number w k scheme (Some location) verdict ≡ again → ⊥
outside_ends plan look number w k scheme location Again is = cc
outside_ends plan look number w k scheme location Converged is = cc
outside_ends plan look number w k scheme location AtLimit is = cc
outside_ends plan look number w k scheme location (NotConverged measure) is = cc

-- a residual is of as many values as the posted waves have at one time
less_many : (a b : List ℤ) (n : ℕ) → length a ≡ n → length b ≡ n → length (less a b) ≡ n
unfolding less
less_many a b n one other = length-map (zip a b) _ ∙ length-zip a b ∙ omega (arith, one, other)

no_sample : Sample
no_sample = record { time = 0; field = record { components = 0; values = [] } }

one_many : (degree : ℕ) (taken posted : Wave) → 1 ≤ length taken → CanRelax (exchange_of degree taken posted) → length (end_difference (exchange_of degree taken posted)) ≡ width posted
unfolding less
one_many degree taken [] some can = refl
one_many degree taken (s ∷ more) some can =
    less_many (end_values (s ∷ more)) (read taken degree (last_time (s ∷ more))) (width (s ∷ more)) refl
    (read-length taken degree (last_time (s ∷ more)) (width (s ∷ more)) some (width_of_taken degree taken (s ∷ more) (omega arith) can.alike)
    (elim can.covered [ inl one ↦ inl one | inr all ↦ inr (covers all) ]))
  where
    covers : All (λ (y : Sample). (first_time taken ≤ y.time) × (y.time ≤ last_time taken)) (s ∷ more) → (first_time taken ≤ last_time (s ∷ more)) × (last_time (s ∷ more) ≤ last_time taken)
    covers all =
        let one = all (length (s ∷ more) - 1) no_sample (omega arith) in
        let end : last_time (s ∷ more) ≡ (get_or (s ∷ more) (length (s ∷ more) - 1) no_sample).time =
        get_or-map (λ (z : Sample). z.time) (s ∷ more) (length (s ∷ more) - 1) no_sample 0 (omega arith) in
        (omega (arith, one.0, end), omega (arith, one.1, end))

all_many : (es : List Exchanged) → All (λ (e : Exchanged). 1 ≤ length e.taken) es → All CanRelax es → length (residual es) ≡ sum_by (λ (e : Exchanged). width e.posted) es
all_many [] some can = refl
all_many (e ∷ es) some can =
    length-append (end_difference e) (residual es)
    ∙ omega (
      arith,
      one_many e.degree e.taken e.posted (All-head (λ (z : Exchanged). 1 ≤ length z.taken) e es some) (All-head CanRelax e es can),
      all_many es (All-tail (λ (z : Exchanged). 1 ≤ length z.taken) e es some) (All-tail CanRelax e es can),
    )
    ∙ sym (sum_by-cons (λ (z : Exchanged). width z.posted) e es)

posted_sum : (degrees : List ℕ) (read posted : List Wave) → length degrees ≡ length posted → length read ≡ length posted
    → sum_by (λ (e : Exchanged). width e.posted) (exchanged degrees read posted) ≡ sum_by width posted
posted_sum [] [] [] one other = refl
posted_sum [] [] (p ∷ ps) one other = absurd (omega (arith, one))
posted_sum [] (r ∷ rs) [] one other = absurd (omega (arith, other))
posted_sum [] (r ∷ rs) (p ∷ ps) one other = absurd (omega (arith, one))
posted_sum (n ∷ ns) [] [] one other = absurd (omega (arith, one))
posted_sum (n ∷ ns) [] (p ∷ ps) one other = absurd (omega (arith, other))
posted_sum (n ∷ ns) (r ∷ rs) [] one other = absurd (omega (arith, one))
posted_sum (n ∷ ns) (r ∷ rs) (p ∷ ps) one other =
    sum_by-cons (λ (e : Exchanged). width e.posted) (exchange_of n r p) (exchanged ns rs ps)
    ∙ ap (λ (m : ℕ). width p + m) (posted_sum ns rs ps (omega (arith, one)) (omega (arith, other)))
    ∙ sym (sum_by-cons width p ps)

-- what is remembered is of as many values
remembered : (state : RelaxerState) (es : List Exchanged) (iterate : Iterate) (n : ℕ) → relaxed_iterate state es ≡ Ok iterate → length (residual es) ≡ n
    → IfSome iterate.next.memory (λ last. length last.residual ≡ n)
unfolding relaxed_iterate
remembered state es iterate n made many = by (first_outside (located (waves_of state es))) made where
  own : (method : Method) → IfSome (memory_by method state.memory (residual es)) (λ last. length last.residual ≡ n)
  own Plain = tt
  own (Constant factor) = tt
  own (Aitken first) = many

  by : (o : Option Location) → unless_outside o (record { waves = waves_of state es; next = record { method = state.method; memory = memory_by state.method state.memory (residual es) } }) ≡ Ok iterate
      → IfSome iterate.next.memory (λ last. length last.residual ≡ n)
  by None is =
      let same : record { waves = waves_of state es; next = record { method = state.method; memory = memory_by state.method state.memory (residual es) } } ≡ iterate = cc in
      subst (λ (i : Iterate). IfSome i.next.memory (λ last. length last.residual ≡ n)) same (own state.method)
  by (Some location) is = cc

-- a course after an iteration that is judged so
pub record WrittenDown (plan : PlanParts) (look : Look Post) (at : Iteration) (scheme : Scheme) : Type 0 where
  pub after : CourseKept
  pub is_kept : IsKept after
  pub repeats : judged_by plan look at.scheme at.window at.start at.number (slice_get plan.schemes at.scheme) ≡ again → CourseTells plan look scheme at.window at.start at.number after

module _ (plan : PlanParts) (valid : IsValidPlan plan) (stores : List (Option StoreKept)) (at : Iteration) (course : CourseKept) (first : 1 ≤ at.number)
    (ready : IsReady plan stores at course) (scheme : Scheme) (there : slice_get plan.schemes at.scheme ≡ Some scheme) (kept : IsKept course) where
  abbrev degrees_at : List ℕ
  degrees_at = map (degree_in plan) (over scheme.accel)

  abbrev read_at : List Wave
  read_at = map (read_in plan ready.look scheme at.window at.start (waves_before at.number course.waves)) (over scheme.accel)

  abbrev posts_at : List Wave
  posts_at = map (posted_wave plan ready.look at.window at.number) (over scheme.accel)

  can_relax : AreRelaxable degrees_at read_at posts_at
  can_relax = relaxable plan valid stores at course first ready scheme there degrees_at read_at posts_at (record { degrees_are = refl; read_are = refl; posted_are = refl })

  pub written_down : WrittenDown plan ready.look at scheme
  written_down = by (relaxed_iterate (relaxer_at at.number scheme.accel course) (exchanged degrees_at read_at posts_at)) refl where
    by : (result : Result Iterate Location) → relaxed_iterate (relaxer_at at.number scheme.accel course) (exchanged degrees_at read_at posts_at) ≡ result → WrittenDown plan ready.look at scheme
    by (Ok iterate) made = record {
      after = record { waves = iterate.waves; relaxer = iterate.next; firsts = firsts_at at.number (changes_in plan ready.look scheme at.window at.start at.number) course };
      is_kept = remembered (relaxer_at at.number scheme.accel course) (exchanged degrees_at read_at posts_at) iterate (sum_by width iterate.waves) made
          (all_many (exchanged degrees_at read_at posts_at) can_relax.filled can_relax.exchanges ∙ posted_sum degrees_at read_at posts_at can_relax.one_degree can_relax.one_read
          ∙ sym (widths-kept (relaxer_at at.number scheme.accel course) iterate.next degrees_at read_at posts_at iterate.waves can_relax made));
      repeats = λ repeated.
          told_next plan ready.look scheme at.window at.start at.number course
          (record { waves = iterate.waves; relaxer = iterate.next; firsts = firsts_at at.number (changes_in plan ready.look scheme at.window at.start at.number) course })
          first (ready.tells.before scheme there) degrees_at read_at posts_at refl refl refl (changes_in plan ready.look scheme at.window at.start at.number) can_relax refl (made, refl);
    }
    by (Err location) made = record {
      after = course;
      is_kept = kept;
      repeats = λ repeated.
          let outside = outside_is plan ready.look scheme at.window at.start at.number course course first (ready.tells.before scheme there) degrees_at read_at posts_at refl refl refl
          (changes_in plan ready.look scheme at.window at.start at.number) (Some (record { place = location.place; time = location.time; component = location.component })) (made, refl) in
          absurd (outside_ends plan ready.look at.scheme at.window at.number scheme location (verdict_in plan ready.look scheme at.window at.start at.number)
          (ap (λ (o : Option Location). judgement_in plan ready.look at.scheme at.window at.number scheme o (verdict_in plan ready.look scheme at.window at.start at.number)) (sym outside)
          ∙ sym (ap (λ (o : Option Scheme). judged_by plan ready.look at.scheme at.window at.start at.number o) there) ∙ repeated));
    }
