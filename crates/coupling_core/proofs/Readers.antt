-- What a core tells of a participant, and where everything begins.
use Rattle.std.proofs.Common.{◌≡◌, ℕ, zero, suc, ◌<◌, ◌≤◌, inl, false, List, [], ◌∷◌, ◌++◌, ◌+◌, append-nil, IsTrue, length, replicate, take, slice_get, Option, Some, None, refl, sym, ap, subst, ◌∙◌, arith}
use Rattle.std.specs.List.{list_any}
use Rattle.std.specs.Option.{option_map_or}
use Rattle.cpl_plan.specs.Windows.{window_start}
use Rattle.wave_coupling.specs.Coupling.{start_of}
use Rattle.std.proofs.lemmas.Bool.{false≢true}
use Rattle.std.proofs.lemmas.Option.{none-some, same_Some}
use Rattle.cpl_plan.specs.ValidPlan.{IsValidPlan}
use Rattle.cpl_plan.specs.declared.parts.PlanParts.{PlanParts}
use Rattle.cpl_plan.specs.declared.parts.Scheme.{Scheme}
use Rattle.coupled_loop.specs.CoreState.{look_in, turn_at}
use Rattle.coupled_loop.specs.LegalHistory.{opening_state}
use Rattle.coupled_loop.specs.PlanFrames.{window_maker, ends_made}
use Rattle.wave_coupling.specs.Posts.{Post, newest_time}
use Rattle.sample_store.specs.Kept.{Kept as StoreKept}
use Rattle.core_sides.specs.CoreWords.{WaveState, WaveEntry}
use Rattle.core_sides.specs.SidesStand.{IsStanding, AreStanding}
use Rattle.core_sides.specs.declared.sides.Sides.{Sides}
use Rattle.core_sides.proofs.Telling.{starts_as}
use Rattle.core_sides.specs.declared.standing.Standing.{Standing}
use Rattle.core_stores.specs.StoresStand.{AreStores}
use Rattle.core_schemes.specs.SchemesStand.{IsSchemeOf, AreSchemes}
use Rattle.core_schemes.specs.declared.schemes.LastJudged.{LastJudged}
use Rattle.core_schemes.specs.declared.schemes.SchemeState.{SchemeState}
use Rattle.coupling_core.specs.CoreKept.{CoreKept}
use Rattle.coupling_core.specs.LinesStand.{AreLined}
use Rattle.coupling_core.specs.Opened.{opening_standing}
use Rattle.coupling_core.specs.Placed.{ArePlaced}
use Rattle.coupling_core.specs.StandsFor.{StandsFor}

-- an item of a list of equal ones
pub one_of : {X : Type 0} (n i : ℕ) (x y : X) → slice_get (replicate n x) i ≡ Some y → x ≡ y
one_of zero i x y is = absurd (none-some y is)
one_of (suc n) zero x y is = same_Some x y is
one_of (suc n) (suc i) x y is = one_of n i x y is

pub length_same : {X : Type 0} (n : ℕ) (x : X) → length (replicate n x) ≡ n
length_same zero x = refl
length_same (suc n) x = ap suc (length_same n x)

abbrev beginning : WaveState
beginning = opening_state

none_made : (maker n : ℕ) → ends_made newest_time (look_in beginning) maker n ≡ []
none_made maker zero = refl
none_made maker (suc n) = append-nil (ends_made newest_time (look_in beginning) maker n) ∙ none_made maker n

take_none : (n : ℕ) → take {A = ℕ} n [] ≡ []
take_none zero = refl
take_none (suc n) = refl

-- one more of equal ones
pub replicate_more : {X : Type 0} (n : ℕ) (x : X) → replicate n x ++ x ∷ [] ≡ replicate (n + 1) x
replicate_more zero x = refl
replicate_more (suc n) x = (let next : suc n + 1 ≡ suc (n + 1) = omega arith in ap (λ xs. x ∷ xs) (replicate_more n x) ∙ ap (λ (m : ℕ). replicate m x) (sym next))

-- one more scheme that has judged nothing
pub unjudged_more : (schemes : List SchemeState) (state : SchemeState) → state.last ≡ None → ((s : ℕ) (one : SchemeState) → slice_get schemes s ≡ Some one → one.last ≡ None)
    → (s : ℕ) (one : SchemeState) → slice_get (schemes ++ state ∷ []) s ≡ Some one → one.last ≡ None
unjudged_more [] state none all zero one at = subst (λ (o : SchemeState). o.last ≡ None) (same_Some state one at) none
unjudged_more [] state none all (suc s) one at = absurd (none-some one at)
unjudged_more (x ∷ schemes) state none all zero one at = all zero one at
unjudged_more (x ∷ schemes) state none all (suc s) one at = unjudged_more schemes state none (λ r other is. all (suc r) other is) s one at

-- when a window starts, by what is kept
pub started_is : (plan : PlanParts) (kept : Sides) (sides : WaveState) (w start : ℕ) (o : Option ℕ) → AreStanding plan kept sides → o ≡ window_start plan kept.ends.items w
    → option_map_or (λ one. one) o 0 ≡ start → start ≡ start_of plan (look_in sides) w
started_is plan kept sides w start o are is same =
    sym same ∙ ap (λ (one : Option ℕ). option_map_or (λ n. n) one 0) (is ∙ sym (starts_as plan kept sides are w))

-- a core in which nothing has happened
at_opening : (plan : PlanParts) (schemes : List SchemeState) → length schemes ≡ length plan.schemes → ((number : ℕ) (state : SchemeState) → slice_get schemes number ≡ Some state → state.last ≡ None)
    → StandsFor (record {
      plan = plan;
      standings = replicate (length plan.parts) opening_standing;
      ends = [];
      stores = replicate (length plan.exchanges) None;
      schemes = schemes;
      lines = [];
    }) [] opening_state
at_opening plan schemes count unjudged = record {
  reached = record { legal = refl; fitting = tt };
  sides = record {
    count = length_same (length plan.parts) opening_standing;
    each = λ p standing at. subst (λ (s : Standing). IsStanding s (opening_state p)) (one_of (length plan.parts) p opening_standing standing at) (record { place = refl; ending = refl; sent = refl });
    others = λ p at. refl;
    ends = λ method n. none_made (window_maker plan) n ∙ sym (take_none n);
  };
  stores = record {
    count = length_same (length plan.exchanges) None;
    each = λ x e store at there. rw (sym (one_of (length plan.exchanges) x None store there)) refl;
  };
  schemes = record {
    count = count;
    each = λ number scheme state at there.
        subst (IsSchemeOf plan opening_state number scheme state) (sym (unjudged number state there)) (λ part below grouped. inl refl);
  };
  lines = refl;
  lined = record {
    earlier = λ number w k state at has. absurd (false≢true has);
    newest = λ number state last at is. absurd (none-some last (sym (unjudged number state at) ∙ is));
  };
}

pub opening_stands : (core : CoreKept) → core.standings ≡ replicate (length core.plan.parts) opening_standing → core.ends ≡ [] → core.stores ≡ replicate (length core.plan.exchanges) None
    → length core.schemes ≡ length core.plan.schemes → ((number : ℕ) (state : SchemeState) → slice_get core.schemes number ≡ Some state → state.last ≡ None) → core.lines ≡ []
    → StandsFor core [] opening_state
opening_stands core standings windows stores count unjudged lines =
    subst (λ (k : CoreKept). StandsFor k [] opening_state) same (at_opening core.plan core.schemes count unjudged) where
      same : record {
        plan = core.plan;
        standings = replicate (length core.plan.parts) opening_standing;
        ends = [];
        stores = replicate (length core.plan.exchanges) None;
        schemes = core.schemes;
        lines = [];
      } ≡ core
      same = λ i. record {
        plan = core.plan;
        standings = sym standings i;
        ends = sym windows i;
        stores = sym stores i;
        schemes = core.schemes;
        lines = sym lines i;
      }
