-- Who makes the windows is in no implicit scheme.
use Rattle.std.proofs.Common.{◌≡◌, ℕ, true, nat_eq, List, [], slice_get, Option, Some, None, Contains, refl, ap, sym, subst, ◌∙◌}
use Rattle.std.specs.Prelude.{option_to_list, option_and_then}
use Rattle.std.specs.Cmp.Lexicographic.{pointwise}
use Rattle.std.proofs.lemmas.Bool.{false≢true}
use Rattle.std.proofs.lemmas.Option.{none-some}
use Rattle.plan_order.proofs.Loops.{head_in}
use Rattle.cpl_plan.specs.ExchangeKinds.{is_implicit}
use Rattle.cpl_plan.specs.PlanWords.{passes, schemes_of}
use Rattle.cpl_plan.specs.PlanTests.{groups_of}
use Rattle.cpl_plan.specs.ValidPlan.{IsValidPlan}
use Rattle.cpl_plan.specs.declared.parts.PlanParts.{PlanParts}
use Rattle.cpl_plan.specs.declared.parts.Part.{Part}
use Rattle.cpl_plan.specs.declared.parts.Scheme.{Scheme}
use Rattle.cpl_plan.proofs.Readings.{each_at, filter_in, passes_at, same_numbers}
use Rattle.coupled_loop.specs.PlanFrames.{group_of}
use Rattle.wave_coupling.specs.Coupling.{makes_windows}
use Rattle.wave_values.proofs.TurnsFit.{makes_first, the_two}

module _ (plan : PlanParts) (valid : IsValidPlan plan) (part : ℕ) where
  -- who makes windows is in no implicit scheme
  pub maker_alone : (number : ℕ) → makes_windows plan part ≡ true → group_of plan part ≡ Some number → ⊥
  maker_alone number makes grouped = of (slice_get plan.parts part) refl grouped
    where
      in_group : (p : Part) → slice_get plan.parts part ≡ Some p → p.group ≡ Some number → ⊥
      in_group p at is =
          let groups = same_numbers (groups_of plan part) (option_to_list p.group) (each_at (λ q r. pointwise nat_eq (groups_of plan q) (option_to_list r.group)) plan.parts valid.participants.in_one_group part p at) in
          let inside : Contains (groups_of plan part) number = subst (λ (ns : List ℕ). Contains ns number) (sym (groups ∙ ap option_to_list is)) (head_in number []) in
          let found = passes_at plan.schemes number (λ s. is_implicit s.kind) (filter_in (λ s. passes plan.schemes s (λ z. is_implicit z.kind)) (schemes_of plan part) number inside).1 in
          let two = the_two plan valid (makes_first plan valid part makes).0 in
          let same : two.scheme ≡ found.0 = two.only number found.0 found.1 in
          false≢true (sym (ap (λ kd. is_implicit kd) two.kind) ∙ ap (λ (s : Scheme). is_implicit s.kind) same ∙ found.2)

      of : (o : Option Part) → slice_get plan.parts part ≡ o → option_and_then (λ (p : Part). p.group) o ≡ Some number → ⊥
      of None at is = none-some number is
      of (Some p) at is = in_group p at is
