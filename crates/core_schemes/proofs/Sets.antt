-- One scheme's state is replaced by one that stands.
use Rattle.std.proofs.Common.{◌≡◌, ℕ, ◌<◌, inl, inr, List, length, set, slice_get, Some, sym, ap, subst, ◌∙◌}
use Rattle.std.proofs.lemmas.Bool.{cases_eq}
use Rattle.std.proofs.lemmas.List.{length-set}
use Rattle.std.proofs.lemmas.Option.{same_Some, slice_get_within}
use Rattle.cpl_plan.specs.declared.parts.PlanParts.{PlanParts}
use Rattle.cpl_plan.specs.declared.parts.Scheme.{Scheme}
use Rattle.core_sides.specs.CoreWords.{WaveState}
use Rattle.core_sides.proofs.StandingPuts.{set_here, set_apart}
use Rattle.core_schemes.specs.declared.schemes.SchemeState.{SchemeState}
use Rattle.core_schemes.specs.SchemesStand.{IsSchemeOf, AreSchemes}

pub schemes_set : (plan : PlanParts) (schemes : List SchemeState) (sides : WaveState) (number : ℕ) (state : SchemeState) → AreSchemes plan schemes sides
    → ((scheme : Scheme) → slice_get plan.schemes number ≡ Some scheme → IsSchemeOf plan sides number scheme state state.last)
    → AreSchemes plan (set schemes number state) sides
schemes_set plan schemes sides number state are is = record {
  count = length-set schemes number state ∙ are.count;
  each = λ n scheme other at there. elim (cases_eq n number) [
    | inl same ↦
        let here : slice_get (set schemes number state) number ≡ Some other = ap (slice_get (set schemes number state)) (sym same) ∙ there in
        let below : number < length schemes = subst (λ (m : ℕ). number < m) (length-set schemes number state) (slice_get_within (set schemes number state) number other here) in
        let own : state ≡ other = same_Some state other (sym (set_here schemes number state below) ∙ here) in
        subst (λ (m : ℕ). IsSchemeOf plan sides m scheme other other.last) (sym same)
        (subst (λ (s : SchemeState). IsSchemeOf plan sides number scheme s s.last) own (is scheme (ap (slice_get plan.schemes) (sym same) ∙ at)))
    | inr apart ↦ are.each n scheme other at (sym (set_apart schemes number n state apart) ∙ there)
  ];
}
