-- One iteration more of what relaxation makes of a window.
use Rattle.std.proofs.Common.{◌≡◌, ℕ, suc, ◌-◌, ◌≤◌, inl, inr, ◌++◌, cond, List, [], ◌∷◌, map, Option, Some, None, option_map, Result, Ok, Err, arith, refl, ap, sym, ◌∙◌}
use Rattle.std.specs.Prelude.{slice_get, sum_by}
use Rattle.std.specs.Option.{option_map_or}
use Rattle.std.proofs.lemmas.Bool.{cases_eq, ne_eqb}
use Rattle.std.proofs.lemmas.Option.{none-some}
use Rattle.cpl_plan.specs.declared.parts.PlanParts.{PlanParts}
use Rattle.cpl_plan.specs.declared.parts.Exchange.{Exchange}
use Rattle.cpl_plan.specs.declared.parts.Scheme.{Scheme}
use Rattle.acceleration.specs.Exchanged.{Exchanged, exchange_of, exchanged}
use Rattle.acceleration.specs.Outside.{Location}
use Rattle.acceleration.specs.RelaxedIterate.{Iterate, relaxed_iterate}
use Rattle.acceleration.specs.RelaxerState.{RelaxerState, fresh, method_of}
use Rattle.acceleration.specs.Factors.{factor_by}
use Rattle.acceleration.specs.Residual.{residual, width}
use Rattle.acceleration.proofs.FirstOverflows.{iterate-waves}
use Rattle.coupled_loop.specs.Given.{Look}
use Rattle.wave_coupling.specs.Posts.{Wave, Post}
use Rattle.wave_coupling.specs.InputWave.{Relaxed, over, accepted_before, posted, accelerated, relaxed_next, relaxed_after, exchange_of as exchange_by}
use Rattle.group_course.specs.declared.relaxing.OutOfRange.{OutOfRange}
use Rattle.group_course.specs.CourseKept.{CourseKept}
use Rattle.group_course.specs.CourseTells.{CourseTells, changes_in, posted_wave, outline}
use Rattle.group_course.specs.Taken.{degree_in, relaxed_of, read_in, waves_before, AreRelaxable}
use Rattle.group_course.specs.Outcome.{location_of, relaxer_at, firsts_at, HasRelaxed}
use Rattle.group_course.proofs.Maps.{exchanged-map}
use Rattle.group_course.proofs.Outlines.{outlines-relaxed, outlines-posted, same_widths}

same_map : (f g : ℕ → Exchanged) → ((x : ℕ) → f x ≡ g x) → (xs : List ℕ) → map f xs ≡ map g xs
same_map f g same [] = refl
same_map f g same (x ∷ xs) = ap (λ (e : Exchanged). e ∷ map f xs) (same x) ∙ ap (λ (es : List Exchanged). g x ∷ es) (same_map f g same xs)

pub same_exchanged : (ns ms : List ℕ) (rs us ps qs : List Wave) → ns ≡ ms → rs ≡ us → ps ≡ qs → exchanged ns rs ps ≡ exchanged ms us qs
same_exchanged ns ms rs us ps qs one two three =
    ap (λ (ks : List ℕ). exchanged ks rs ps) one ∙ ap (λ (ws : List Wave). exchanged ms ws ps) two ∙ ap (λ (ws : List Wave). exchanged ms us ws) three

-- the changes of the first iteration
pub firsts_are : (plan : PlanParts) (look : Look Post) (scheme : Scheme) (w start k : ℕ) (course : CourseKept) (changes : List ℕ) → 1 ≤ k
    → (2 ≤ k → CourseTells plan look scheme w start (k - 1) course) → changes ≡ changes_in plan look scheme w start k
    → firsts_at k changes course ≡ changes_in plan look scheme w start 1
firsts_are plan look scheme w start k course changes first told are = elim (cases_eq k 1) [
  | inl one ↦ ap (λ (n : ℕ). firsts_at n changes course) one ∙ are ∙ ap (λ (n : ℕ). changes_in plan look scheme w start n) one
  | inr more ↦ ap (λ b. cond b changes course.firsts) (ne_eqb k 1 more) ∙ (told (omega (arith, first, more))).firsts
]

-- relaxed waves have the outlines of those that were posted
pub outlines-kept : (state next : RelaxerState) (degrees : List ℕ) (read posts waves : List Wave) → AreRelaxable degrees read posts
    → relaxed_iterate state (exchanged degrees read posts) ≡ Ok (record { waves = waves; next = next }) → map outline waves ≡ map outline posts
outlines-kept state next degrees read posts waves relaxable is =
    let es = exchanged degrees read posts in
    ap (λ (ws : List Wave). map outline ws) (iterate-waves state es (record { waves = waves; next = next }) is)
    ∙ outlines-relaxed (factor_by state.method state.memory (residual es)) es relaxable.filled relaxable.exchanges
    ∙ outlines-posted degrees read posts relaxable.one_degree relaxable.one_read

pub widths-kept : (state next : RelaxerState) (degrees : List ℕ) (read posts waves : List Wave) → AreRelaxable degrees read posts
    → relaxed_iterate state (exchanged degrees read posts) ≡ Ok (record { waves = waves; next = next }) → sum_by width waves ≡ sum_by width posts
widths-kept state next degrees read posts waves relaxable is = same_widths waves posts (outlines-kept state next degrees read posts waves relaxable is)

module _ (plan : PlanParts) (look : Look Post) (scheme : Scheme) (w start : ℕ) where
  abbrev all_of : (k : ℕ) (waves : List Wave) → List Exchanged
  all_of k waves = map (λ x. accelerated plan look w start k (relaxed_of scheme waves x) x (exchange_by plan look x)) (over scheme.accel)

  one_is : (k x : ℕ) (before : Wave) (o : Option Exchange)
      → exchange_of (option_map_or (λ e. option_map_or (λ d. d.degree) (slice_get plan.data_list e.data_id) 0) o 0)
      (option_map_or (λ e. accepted_before plan look e x w start ++ before) o []) (option_map_or (λ e. (posted plan look e x w k).wave) o [])
      ≡ accelerated plan look w start k before x o
  one_is k x before None = refl
  one_is k x before (Some e) = refl

  -- the lists of an iteration are what is relaxed in it
  all_is : (k : ℕ) (waves : List Wave) (degrees : List ℕ) (read posts : List Wave) → degrees ≡ map (degree_in plan) (over scheme.accel)
      → read ≡ map (read_in plan look scheme w start waves) (over scheme.accel) → posts ≡ map (posted_wave plan look w k) (over scheme.accel)
      → exchanged degrees read posts ≡ all_of k waves
  all_is k waves degrees read posts one two three =
      ap (λ (ns : List ℕ). exchanged ns read posts) one
      ∙ ap (λ (ws : List Wave). exchanged (map (degree_in plan) (over scheme.accel)) ws posts) two
      ∙ ap (λ (ws : List Wave). exchanged (map (degree_in plan) (over scheme.accel)) (map (read_in plan look scheme w start waves) (over scheme.accel)) ws) three
      ∙ exchanged-map (degree_in plan) (read_in plan look scheme w start waves) (posted_wave plan look w k) (over scheme.accel)
      ∙ same_map (λ x. exchange_of (degree_in plan x) (read_in plan look scheme w start waves x) (posted_wave plan look w k x))
      (λ x. accelerated plan look w start k (relaxed_of scheme waves x) x (exchange_by plan look x))
      (λ x. one_is k x (relaxed_of scheme waves x) (slice_get plan.exchanges x)) (over scheme.accel)

  -- what relaxation has made of the iterations before k
  abbrev before_of : (k : ℕ) → CourseKept → Relaxed
  before_of k course = record { waves = waves_before k course.waves; relaxer = relaxer_at k scheme.accel course; outside = None }

  before_is : (k : ℕ) (course : CourseKept) → 1 ≤ k → (2 ≤ k → CourseTells plan look scheme w start (k - 1) course) → relaxed_after plan look scheme w start (k - 1) ≡ before_of k course
  before_is k course first told = elim (cases_eq k 1) [
    | inl one ↦
        let none : k - 1 ≡ 0 = omega (arith, one) in
        ap (λ (n : ℕ). relaxed_after plan look scheme w start n) none ∙ sym (ap (λ (n : ℕ). before_of n course) one)
    | inr more ↦
        (told (omega (arith, first, more))).relaxed
        ∙ sym (ap (λ b. record { waves = cond b [] course.waves; relaxer = cond b (fresh (method_of scheme.accel)) course.relaxer; outside = None }) (ne_eqb k 1 more))
  ]

  step : (k : ℕ) (before : Relaxed) (iterate : Result Iterate Location) → relaxed_after plan look scheme w start k ≡ before
      → relaxed_iterate before.relaxer (all_of (suc k) before.waves) ≡ iterate
      → relaxed_after plan look scheme w start (suc k) ≡ relaxed_next plan look before iterate
  step k before iterate is made =
      ap (λ (b : Relaxed). relaxed_next plan look b (relaxed_iterate b.relaxer (all_of (suc k) b.waves))) is ∙ ap (λ (r : Result Iterate Location). relaxed_next plan look before r) made

  module _ (k : ℕ) (course after : CourseKept) (first : 1 ≤ k) (told : 2 ≤ k → CourseTells plan look scheme w start (k - 1) course)
      (degrees : List ℕ) (read posts : List Wave) (one : degrees ≡ map (degree_in plan) (over scheme.accel))
      (two : read ≡ map (read_in plan look scheme w start (waves_before k course.waves)) (over scheme.accel)) (three : posts ≡ map (posted_wave plan look w k) (over scheme.accel)) where
    next_is : (iterate : Result Iterate Location) → relaxed_iterate (relaxer_at k scheme.accel course) (exchanged degrees read posts) ≡ iterate
        → relaxed_after plan look scheme w start k ≡ relaxed_next plan look (before_of k course) iterate
    next_is iterate made =
        let at : k ≡ suc (k - 1) = omega (arith, first) in
        ap (λ (n : ℕ). relaxed_after plan look scheme w start n) at
        ∙ step (k - 1) (before_of k course) iterate (before_is k course first told)
        (ap (λ (n : ℕ). relaxed_iterate (relaxer_at k scheme.accel course) (all_of n (waves_before k course.waves))) (sym at)
        ∙ ap (λ (es : List Exchanged). relaxed_iterate (relaxer_at k scheme.accel course) es) (sym (all_is k (waves_before k course.waves) degrees read posts one two three)) ∙ made)

    module _ (changes : List ℕ) where
      -- where a value is out of range
      pub outside_is : (out : Option OutOfRange) → HasRelaxed (relaxer_at k scheme.accel course) (exchanged degrees read posts) (firsts_at k changes course) course after out
          → (relaxed_after plan look scheme w start k).outside ≡ option_map location_of out
      outside_is None relaxed = ap (λ (r : Relaxed). r.outside) (next_is (Ok (record { waves = after.waves; next = after.relaxer })) relaxed.0)
      outside_is (Some out) relaxed = ap (λ (r : Relaxed). r.outside) (next_is (Err (location_of out)) relaxed.0)

      -- what the course tells after it
      pub told_next : AreRelaxable degrees read posts → changes ≡ changes_in plan look scheme w start k
          → HasRelaxed (relaxer_at k scheme.accel course) (exchanged degrees read posts) (firsts_at k changes course) course after None
          → CourseTells plan look scheme w start k after
      told_next relaxable are relaxed = record {
        relaxed = next_is (Ok (record { waves = after.waves; next = after.relaxer })) relaxed.0;
        firsts = relaxed.1 ∙ firsts_are plan look scheme w start k course changes first told are;
        outlines = outlines-kept (relaxer_at k scheme.accel course) after.relaxer degrees read posts after.waves relaxable relaxed.0
            ∙ ap (λ (ws : List Wave). map outline ws) three ∙ lists (over scheme.accel);
      }
        where
          lists : (xs : List ℕ) → map outline (map (posted_wave plan look w k) xs) ≡ map (λ x. outline (posted_wave plan look w k x)) xs
          lists [] = refl
          lists (x ∷ xs) = ap (λ (os : List (List (ℕ × (ℕ × ℕ)))). outline (posted_wave plan look w k x) ∷ os) (lists xs)

-- an iteration after which no fault is told
pub none_by : {X Y : Type 0} (f : X → Y) (o : Option X) → option_map f o ≡ None → o ≡ None
none_by f None is = refl
none_by f (Some x) is = absurd (none-some (f x) (sym is))
