-- When each verdict comes: the tests of the definition in words, and the four verdicts from them.
use Rattle.std.proofs.Common.{◌≡◌, ◌≢◌, ◌↔◌, ◌⊎◌, ℕ, Bool, true, false, not, ◌&&◌, ◌||◌, List, Option, Some, None, All, Any, nat_le, nat_eq, if◌then◌else◌, inl, inr, refl, ap, ◌∙◌}
use Rattle.std.specs.List.{list_all, list_any}
use Rattle.std.proofs.lemmas.Bool.{leb-true, le-leb, eqb-true, eqb-false, eq-eqb, ne_eqb, cases_Bool, and_parts, and_from, or_cases}
use Rattle.std.proofs.lemmas.List.Folds.{Any-from_list_any, list_any-from_Any}
use Rattle.std.proofs.lemmas.List.Sums.{AllPass-from_list_all, list_all-from_AllPass}
use Rattle.cpl_plan.specs.declared.words.Verdict.{Verdict}
use Rattle.cpl_plan.specs.declared.words.Verdict.TheVariants.{Again, Converged, AtLimit, NotConverged}
use Rattle.convergence.specs.declared.measured.Measured.{Measured}
use Rattle.convergence.specs.Holds.{holds}
use Rattle.convergence.specs.Verdict.{is_sufficient, is_failing, are_met, first_failing, last_verdict, verdict}
use Rattle.convergence.specs.Causes.{IsEnough, HasConverged, Fails, Passes, IsFirstFailing}
use Rattle.convergence.proofs.Places.{found, finds, none_passes, finds_none}

left_passes : (a b : Bool) → a ≡ true → (a || b) ≡ true
left_passes a b is = ap (λ x. x || b) is

right_passes : (a b : Bool) → b ≡ true → (a || b) ≡ true
right_passes true b is = refl
right_passes false b is = is

enough : (at : Measured) → is_sufficient at ≡ true → IsEnough at
enough at is = let parts = and_parts at.measure.suffices (holds at) is in record { suffices = parts.0; met = parts.1 }

is_enough : (at : Measured) → IsEnough at → is_sufficient at ≡ true
is_enough at is = and_from at.measure.suffices (holds at) is.suffices is.met

-- the measures let the window end
pub met : (all : List Measured) → are_met all ≡ true → Any IsEnough all ⊎ All (λ at. holds at ≡ true) all
met all is = elim (or_cases (list_any is_sufficient all) (list_all holds all) is) [
  | inl one ↦ (let at = Any-from_list_any is_sufficient all one in inl (at.0, at.1, at.2, at.3, enough at.1 at.4))
  | inr each ↦ inr (AllPass-from_list_all holds all each)
]

pub are_met_by : (all : List Measured) → Any IsEnough all ⊎ All (λ at. holds at ≡ true) all → are_met all ≡ true
are_met_by all is = elim is [
  | inl one ↦ left_passes (list_any is_sufficient all) (list_all holds all) (list_any-from_Any is_sufficient all (one.0, one.1, one.2, one.3, is_enough one.1 one.4))
  | inr each ↦ right_passes (list_any is_sufficient all) (list_all holds all) (list_all-from_AllPass holds all each)
]

-- the test of the definition
abbrev pub ends : List Measured → (k min : ℕ) → Bool
ends all k min = nat_le min k && are_met all

pub converged : (all : List Measured) (k min : ℕ) → ends all k min ≡ true → HasConverged all k min
converged all k min is =
    let parts = and_parts (nat_le min k) (are_met all) is in
    record { often_enough = leb-true min k parts.0; met = met all parts.1 }

pub ends_where_converged : (all : List Measured) (k min : ℕ) → HasConverged all k min → ends all k min ≡ true
ends_where_converged all k min is = and_from (nat_le min k) (are_met all) (le-leb min k is.often_enough) (are_met_by all is.met)

goes_on : (all : List Measured) (k min : ℕ) → ends all k min ≡ false → ¬ HasConverged all k min
goes_on all k min is = λ has. let e = ends_where_converged all k min has in absurd (cc)

-- a strict measure that does not hold
passes : (strict holds : Bool) → (strict && not holds) ≡ false → strict ≡ true → holds ≡ true
passes true true is must = refl
passes true false is must = absurd (cc)
passes false b is must = absurd (cc)

no_failure : (strict holds : Bool) → (strict ≡ true → holds ≡ true) → (strict && not holds) ≡ false
no_failure true true must = refl
no_failure true false must = let e = must refl in absurd (cc)
no_failure false b must = refl

fails : (strict holds : Bool) → (strict && not holds) ≡ true → (strict ≡ true) × (holds ≡ false)
fails true true is = absurd (cc)
fails true false is = (refl, refl)
fails false b is = absurd (cc)

failure : (strict holds : Bool) → strict ≡ true → holds ≡ false → (strict && not holds) ≡ true
failure a b strict missed = ap (λ x. x && not b) strict ∙ ap not missed

failing : (at : Measured) → is_failing at ≡ true → Fails at
failing at is = let parts = fails at.measure.strict (holds at) is in record { strict = parts.0; missed = parts.1 }

pub first_fails : (all : List Measured) (place : ℕ) → first_failing all ≡ Some place → IsFirstFailing all place
first_fails all place is =
    let at = found is_failing all place is in
    record {
      inside = at.inside;
      failing = λ d. failing _ (at.passes d);
      first = λ k d low high. passes _ _ (at.first k d low high);
    }

pub is_first_failing : (all : List Measured) (place : ℕ) → IsFirstFailing all place → first_failing all ≡ Some place
is_first_failing all place is =
    finds is_failing all place (record {
      inside = is.inside;
      passes = λ d. let here = is.failing d in failure _ _ here.strict here.missed;
      first = λ k d low high. no_failure _ _ (is.first k d low high);
    })

pub all_pass : (all : List Measured) → first_failing all ≡ None → All Passes all
all_pass all none = λ k d inside. passes _ _ (none_passes is_failing all none k d inside)

pub none_fails : (all : List Measured) → All Passes all → first_failing all ≡ None
none_fails all pass = finds_none is_failing all (λ k d inside. no_failure _ _ (pass k d inside))

-- the verdict by the tests of the definition: whether the window ends, whether the iteration is the last, and what fails
abbrev pub choice : Bool → Bool → Option ℕ → Verdict
choice ended last failed = if ended then Converged else if last then last_verdict failed else Again

only_converged : (ended last : Bool) (failed : Option ℕ) → choice ended last failed ≡ Converged → ended ≡ true
only_converged true last failed is = refl
only_converged false true None is = absurd (cc)
only_converged false true (Some place) is = absurd (cc)
only_converged false false failed is = absurd (cc)

only_at_limit : (ended last : Bool) (failed : Option ℕ) → choice ended last failed ≡ AtLimit → (ended ≡ false) × (last ≡ true) × (failed ≡ None)
only_at_limit true last failed is = absurd (cc)
only_at_limit false true None is = (refl, refl, refl)
only_at_limit false true (Some place) is = absurd (cc)
only_at_limit false false failed is = absurd (cc)

only_not_converged : (ended last : Bool) (failed : Option ℕ) (place : ℕ) → choice ended last failed ≡ NotConverged place → (ended ≡ false) × (last ≡ true) × (failed ≡ Some place)
only_not_converged true last failed place is = absurd (cc)
only_not_converged false true None place is = absurd (cc)
only_not_converged false true (Some p) place is = (refl, refl, cc)
only_not_converged false false failed place is = absurd (cc)

only_again : (ended last : Bool) (failed : Option ℕ) → choice ended last failed ≡ Again → (ended ≡ false) × (last ≡ false)
only_again true last failed is = absurd (cc)
only_again false true None is = absurd (cc)
only_again false true (Some place) is = absurd (cc)
only_again false false failed is = (refl, refl)

chosen : (ended last : Bool) (failed : Option ℕ) {a b : Bool} {c : Option ℕ} → ended ≡ a → last ≡ b → failed ≡ c → choice ended last failed ≡ choice a b c
chosen ended last failed p q r = cc

ends_not : (all : List Measured) (k min : ℕ) → ¬ HasConverged all k min → ends all k min ≡ false
ends_not all k min never = elim (cases_Bool (ends all k min)) [ inl is ↦ absurd (never (converged all k min is)) | inr is ↦ is ]

pub verdict-Converged : (all : List Measured) (k min max : ℕ) → (verdict all k min max ≡ Converged) ↔ HasConverged all k min
verdict-Converged all k min max = (
  λ is. converged all k min (only_converged _ _ _ is),
  λ has. chosen _ (nat_eq k max) (first_failing all) (ends_where_converged all k min has) refl refl,
)

pub verdict-AtLimit : (all : List Measured) (k min max : ℕ) → (verdict all k min max ≡ AtLimit) ↔ ((k ≡ max) × (¬ HasConverged all k min) × All Passes all)
verdict-AtLimit all k min max = (
  λ is. let parts = only_at_limit (ends all k min) (nat_eq k max) (first_failing all) is in (eqb-true k max parts.1, goes_on all k min parts.0, all_pass all parts.2),
  λ has. chosen _ _ _ (ends_not all k min has.1) (eq-eqb k max has.0) (none_fails all has.2),
)

pub verdict-NotConverged : (all : List Measured) (k min max place : ℕ) → (verdict all k min max ≡ NotConverged place) ↔ ((k ≡ max) × (¬ HasConverged all k min) × IsFirstFailing all place)
verdict-NotConverged all k min max place = (
  λ is. let parts = only_not_converged (ends all k min) (nat_eq k max) (first_failing all) place is in (eqb-true k max parts.1, goes_on all k min parts.0, first_fails all place parts.2),
  λ has. chosen _ _ _ (ends_not all k min has.1) (eq-eqb k max has.0) (is_first_failing all place has.2),
)

pub verdict-Again : (all : List Measured) (k min max : ℕ) → (verdict all k min max ≡ Again) ↔ ((k ≢ max) × (¬ HasConverged all k min))
verdict-Again all k min max = (
  λ is. let parts = only_again (ends all k min) (nat_eq k max) (first_failing all) is in (eqb-false k max parts.1, goes_on all k min parts.0),
  λ has. chosen _ _ (first_failing all) (ends_not all k min has.1) (ne_eqb k max has.0) refl,
)
