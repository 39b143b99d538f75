-- The fault of a relaxation, and what is judged with it.
use Rattle.std.proofs.Common.{◌≡◌, ℕ, List, Option, Some, None, option_map, refl, ap, sym, ◌∙◌}
use Rattle.std.specs.Prelude.{slice_index}
use Rattle.cpl_plan.specs.declared.parts.PlanParts.{PlanParts}
use Rattle.cpl_plan.specs.declared.parts.Scheme.{Scheme}
use Rattle.cpl_plan.specs.declared.words.Fault.{Fault}
use Rattle.cpl_plan.specs.declared.words.Fault.TheVariants.{Relax}
use Rattle.cpl_plan.specs.declared.words.Verdict.{Verdict}
use Rattle.acceleration.specs.Outside.{Location}
use Rattle.coupled_loop.specs.Given.{Look}
use Rattle.coupled_loop.specs.Endings.{Judgement}
use Rattle.wave_coupling.specs.Posts.{Post}
use Rattle.wave_coupling.specs.InputWave.{over, relaxed_after}
use Rattle.wave_coupling.specs.Judged.{relax_fault, judgement_of, judged_by, verdict_in}
use Rattle.group_course.specs.declared.relaxing.OutOfRange.{OutOfRange}
use Rattle.group_course.specs.Outcome.{location_of}

module _ (plan : PlanParts) (look : Look Post) (number w k : ℕ) (scheme : Scheme) where
  told_by : (out : Option OutOfRange) (result : Option Fault) → (out ≡ None → result ≡ None)
      → ((one : OutOfRange) → out ≡ Some one → result ≡ Some (Relax number w k (slice_index (over scheme.accel) one.place) one.time one.component))
      → result ≡ option_map (relax_fault plan look number w k scheme) (option_map location_of out)
  told_by None result none some = none refl
  told_by (Some one) result none some = some one refl

  -- the fault tells where a value is out of range
  pub fault_is : (xs : List ℕ) (out : Option OutOfRange) (result : Option Fault) (outside : Option Location) → xs ≡ over scheme.accel → (out ≡ None → result ≡ None)
      → ((one : OutOfRange) → out ≡ Some one → result ≡ Some (Relax number w k (slice_index xs one.place) one.time one.component))
      → outside ≡ option_map location_of out → result ≡ option_map (relax_fault plan look number w k scheme) outside
  fault_is xs out result outside are none some is =
      told_by out result none (λ one here. some one here ∙ ap (λ (ns : List ℕ). Some (Relax number w k (slice_index ns one.place) one.time one.component)) are)
      ∙ ap (λ (o : Option Location). option_map (relax_fault plan look number w k scheme) o) (sym is)

-- without a fault nothing is out of range
pub no_outside : (xs : List ℕ) (number w k : ℕ) (out : Option OutOfRange) (result : Option Fault)
    → ((one : OutOfRange) → out ≡ Some one → result ≡ Some (Relax number w k (slice_index xs one.place) one.time one.component)) → result ≡ None → out ≡ None
no_outside xs number w k None result some none = refl
no_outside xs number w k (Some one) result some none = absurd (apart (sym none ∙ some one refl))
  where
    apart : {fault : Fault} → ◌≡◌ {A = Option Fault} None (Some fault) → ⊥
    apart e = cc

-- the judgement of a scheme by its verdict
pub judged_is : (plan : PlanParts) (look : Look Post) (number w start k : ℕ) (scheme : Scheme) (o : Option Scheme) (verdict : Verdict) (judged : Judgement Fault) → o ≡ Some scheme → verdict ≡ verdict_in plan look scheme w start k
    → judged ≡ judgement_of plan look number w k scheme (relaxed_after plan look scheme w start k).outside verdict
    → judged ≡ judged_by plan look number w start k o
judged_is plan look number w start k scheme o verdict judged there is told =
    told ∙ ap (λ (v : Verdict). judgement_of plan look number w k scheme (relaxed_after plan look scheme w start k).outside v) is
    ∙ sym (ap (λ (p : Option Scheme). judged_by plan look number w start k p) there)
