-- Where the first participant makes the windows there is one scheme, a serial-explicit one.
use Rattle.std.proofs.Common.{◌≡◌, ℕ, zero, suc, inl, inr, Bool, true, ◌&&◌, List, [], ◌∷◌, refl, ap, sym, ◌∙◌}
use Rattle.std.specs.Prelude.{Some, slice_get}
use Rattle.std.specs.List.{list_any}
use Rattle.std.proofs.lemmas.Bool.{and_parts, or_cases, false≢true}
use Rattle.cpl_plan.specs.PlanTests.{is_one_serial, is_serial_explicit, goes_to_second, has_first_step}
use Rattle.cpl_plan.specs.ValidPlan.{IsValidPlan}
use Rattle.cpl_plan.specs.declared.parts.PlanParts.{PlanParts}
use Rattle.cpl_plan.specs.declared.parts.Scheme.{Scheme}
use Rattle.cpl_plan.specs.declared.parts.Exchange.{Exchange}
use Rattle.cpl_plan.specs.declared.parts.SchemeKind.{SchemeKind}
use Rattle.cpl_plan.specs.declared.parts.SchemeKind.TheVariants.{SerialExplicit, ParallelExplicit, SerialImplicit, ParallelImplicit, Multi}
use Rattle.cpl_plan.specs.declared.parts.WindowMethod.TheVariants.{FirstParticipant}

serial : (kind : SchemeKind) → is_serial_explicit kind ≡ true → kind ≡ SerialExplicit
serial SerialExplicit is = refl
serial ParallelExplicit is = absurd (false≢true is)
serial SerialImplicit is = absurd (false≢true is)
serial ParallelImplicit is = absurd (false≢true is)
serial Multi is = absurd (false≢true is)

one_of : (schemes : List Scheme) → is_one_serial schemes ≡ true → (scheme : Scheme) × (schemes ≡ scheme ∷ []) × (scheme.kind ≡ SerialExplicit)
one_of [] is = absurd (false≢true is)
one_of (scheme ∷ []) is = (scheme, refl, serial scheme.kind is)
one_of (scheme ∷ other ∷ schemes) is = absurd (false≢true is)

some_place : {X : Type 0} (test : X → Bool) (xs : List X) → list_any test xs ≡ true → (k : ℕ) × (x : X) × (slice_get xs k ≡ Some x) × (test x ≡ true)
some_place test [] is = absurd (false≢true is)
some_place test (x ∷ xs) is = elim (or_cases (test x) (list_any test xs) is) [
  | inl holds ↦ (zero, x, refl, holds)
  | inr rest ↦ let later = some_place test xs rest in (suc later.0, later.1, later.2, later.3)
]

module _ (plan : PlanParts) (valid : IsValidPlan plan) (method : plan.method ≡ FirstParticipant) where
  fits : (is_one_serial plan.schemes && list_any (goes_to_second plan) plan.exchanges) ≡ true
  fits = sym (ap (λ m. has_first_step m plan) method) ∙ valid.schemes.first_step

  pub one_scheme : (scheme : Scheme) × (plan.schemes ≡ scheme ∷ []) × (scheme.kind ≡ SerialExplicit)
  one_scheme = one_of plan.schemes (and_parts (is_one_serial plan.schemes) (list_any (goes_to_second plan) plan.exchanges) fits).0

  pub to_second : (x : ℕ) × (e : Exchange) × (slice_get plan.exchanges x ≡ Some e) × (goes_to_second plan e ≡ true)
  to_second = some_place (goes_to_second plan) plan.exchanges (and_parts (is_one_serial plan.schemes) (list_any (goes_to_second plan) plan.exchanges) fits).1
