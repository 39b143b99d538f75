-- Where a scheme has not judged a turn that all its members have posted, all of them stand at it, and after its first iteration the one before it is what was judged last.
use Rattle.std.proofs.Common.{◌≡◌, ℕ, ◌+◌, ◌-◌, ◌<◌, ◌≤◌, ◌⊎◌, inl, inr, length, Option, Some, None, IsSome, refl, sym, ap, subst, ◌∙◌, arith}
use Rattle.cpl_plan.specs.declared.parts.PlanParts.{PlanParts}
use Rattle.cpl_plan.specs.declared.parts.Scheme.{Scheme}
use Rattle.cpl_plan.specs.declared.words.Fault.{Fault}
use Rattle.cpl_plan.specs.declared.words.Item.TheVariants.{Posted}
use Rattle.coupled_loop.specs.Endings.{Judgement, again, converged, at_limit, refused}
use Rattle.coupled_loop.specs.CoreState.{look_in, turn_at}
use Rattle.coupled_loop.specs.PlanFrames.{group_of}
use Rattle.wave_coupling.specs.Coupling.{wave_frame, start_of, judge_of}
use Rattle.group_course.specs.CourseTells.{CourseTells}
use Rattle.core_sides.specs.CoreWords.{WaveState}
use Rattle.core_sides.proofs.Aligned.{IsTold}
use Rattle.core_schemes.specs.declared.schemes.LastJudged.{LastJudged}
use Rattle.core_schemes.specs.declared.schemes.SchemeState.{SchemeState}
use Rattle.core_schemes.specs.SchemesStand.{IsNextTurn, IsSchemeOf}
use Rattle.core_schemes.specs.Judging.{IsOfTurn}
use Rattle.core_schemes.proofs.Posted.{IsUpTo, posted_up_to_turn}

after : (v j w k : ℕ) (turn : ℕ × ℕ) → turn ≡ (w, k) → (v < turn.0) ⊎ ((v ≡ turn.0) × (j < turn.1)) → IsUpTo w k (v, j) → ⊥
after v j w k turn at (inl less) (inl before) = let window : turn.0 ≡ w = ap (λ (t : ℕ × ℕ). t.0) at in omega (arith, less, before, window)
after v j w k turn at (inl less) (inr here) = let window : turn.0 ≡ w = ap (λ (t : ℕ × ℕ). t.0) at in let own : w ≡ v = here.0 in omega (arith, less, own, window)
after v j w k turn at (inr later) (inl before) = let window : turn.0 ≡ w = ap (λ (t : ℕ × ℕ). t.0) at in let own : v ≡ turn.0 = later.0 in omega (arith, own, before, window)
after v j w k turn at (inr later) (inr here) =
    let iteration : turn.1 ≡ k = ap (λ (t : ℕ × ℕ). t.1) at in
    let own : j < turn.1 = later.1 in
    let other : k ≤ j = here.1 in
    omega (arith, own, other, iteration)

later_turn : (v j : ℕ) (turn : ℕ × ℕ) → turn ≡ (v, j + 1) → (v < turn.0) ⊎ ((v ≡ turn.0) × (j < turn.1))
later_turn v j turn next =
    let iteration : turn.1 ≡ j + 1 = ap (λ (t : ℕ × ℕ). t.1) next in
    inr (sym (ap (λ (t : ℕ × ℕ). t.0) next), omega (arith, iteration))

later_window : (v j : ℕ) (turn : ℕ × ℕ) → turn ≡ (v + 1, 1) → (v < turn.0) ⊎ ((v ≡ turn.0) × (j < turn.1))
later_window v j turn next = let window : turn.0 ≡ v + 1 = ap (λ (t : ℕ × ℕ). t.0) next in inl (omega (arith, window))

-- the next turn comes later
next_later : (judgement : Judgement Fault) (v j : ℕ) (turn : ℕ × ℕ) → IsNextTurn judgement v j turn → (v < turn.0) ⊎ ((v ≡ turn.0) × (j < turn.1))
next_later again v j turn next = later_turn v j turn next
next_later converged v j turn next = later_window v j turn next
next_later at_limit v j turn next = later_window v j turn next
next_later (refused fault) v j turn next = absurd next

-- and there is one
next_same : (judgement : Judgement Fault) (v j : ℕ) (one other : ℕ × ℕ) → IsNextTurn judgement v j one → IsNextTurn judgement v j other → one ≡ other
next_same again v j one other next too = next ∙ sym too
next_same converged v j one other next too = next ∙ sym too
next_same at_limit v j one other next too = next ∙ sym too
next_same (refused fault) v j one other next too = absurd next

module _ (plan : PlanParts) (sides : WaveState) (told : IsTold (wave_frame plan) sides) (number w k : ℕ) (window : 1 ≤ w)
    (all_posted : (one : ℕ) → one < length plan.parts → group_of plan one ≡ Some number → IsSome (look_in sides one (Posted w k)))
    (part : ℕ) (is_part : part < length plan.parts) (grouped : group_of plan part ≡ Some number) (at : turn_at (sides part).place ≡ (w, k))
    (scheme : Scheme) (state : SchemeState) where
  not_opening : ◌≡◌ {A = ℕ × ℕ} (w, k) (0, 0) → ⊥
  not_opening same = let none : w ≡ 0 = ap (λ (t : ℕ × ℕ). t.0) same in omega (arith, window, none)

  reached_turn : (one : ℕ) → one < length plan.parts → group_of plan one ≡ Some number → IsUpTo w k (turn_at (sides one).place)
  reached_turn one below in_it = posted_up_to_turn (wave_frame plan) sides one w k (all_posted one below in_it) (sides one).place (told.well.stands one)

  has_begun : (one : ℕ) → one < length plan.parts → group_of plan one ≡ Some number → turn_at (sides one).place ≡ (0, 0) → ⊥
  has_begun one below in_it opens = elim (subst (λ (t : ℕ × ℕ). IsUpTo w k t) opens (reached_turn one below in_it)) [
    | inl less ↦ omega (arith, less)
    | inr here ↦ let none : w ≡ 0 = here.0 in omega (arith, none, window)
  ]

  pub all_stand_there : (last : Option LastJudged) → (IsOfTurn w k last → ⊥) → IsSchemeOf plan sides number scheme state last
      → (one : ℕ) → one < length plan.parts → group_of plan one ≡ Some number → turn_at (sides one).place ≡ (w, k)
  all_stand_there None new are one below in_it = elim (are part is_part grouped) [
    | inl opens ↦ absurd (not_opening (sym at ∙ opens))
    | inr first ↦ elim (are one below in_it) [ inl opens ↦ absurd (has_begun one below in_it opens) | inr there ↦ there ∙ sym first ∙ at ]
  ]
  all_stand_there (Some last) new is one below in_it = elim (is.members part is_part grouped) [
    | inl here ↦ absurd (new (ap (λ (t : ℕ × ℕ). t.0) (sym here ∙ at), ap (λ (t : ℕ × ℕ). t.1) (sym here ∙ at)))
    | inr next ↦ elim (is.members one below in_it) [
      | inl behind ↦
          absurd (after last.window last.iteration w k (turn_at (sides part).place) at
          (next_later (judge_of plan (look_in sides) number last.window last.iteration) last.window last.iteration (turn_at (sides part).place) next)
          (subst (λ (t : ℕ × ℕ). IsUpTo w k t) behind (reached_turn one below in_it)))
      | inr too ↦
          next_same (judge_of plan (look_in sides) number last.window last.iteration) last.window last.iteration (turn_at (sides one).place) (turn_at (sides part).place) too next ∙ at
    ]
  ]

  abbrev BeforeTold : Type 0
  BeforeTold = CourseTells plan (look_in sides) scheme w (start_of plan (look_in sides) w) (k - 1) state.course

  pub before_told : (last : Option LastJudged) → (IsOfTurn w k last → ⊥) → IsSchemeOf plan sides number scheme state last → 2 ≤ k → BeforeTold
  before_told None new are more = elim (are part is_part grouped) [
    | inl opens ↦ absurd (not_opening (sym at ∙ opens))
    | inr first ↦ let one : k ≡ 1 = ap (λ (t : ℕ × ℕ). t.1) (sym at ∙ first) in absurd (omega (arith, more, one))
  ]
  before_told (Some last) new is more = elim (is.members part is_part grouped) [
    | inl here ↦ absurd (new (ap (λ (t : ℕ × ℕ). t.0) (sym here ∙ at), ap (λ (t : ℕ × ℕ). t.1) (sym here ∙ at)))
    | inr next ↦ by (judge_of plan (look_in sides) number last.window last.iteration) refl next
  ]
    where
      not_first : ◌≡◌ {A = ℕ × ℕ} (w, k) (last.window + 1, 1) → ⊥
      not_first same = let one : k ≡ 1 = ap (λ (t : ℕ × ℕ). t.1) same in omega (arith, more, one)

      by : (judgement : Judgement Fault) → judge_of plan (look_in sides) number last.window last.iteration ≡ judgement
          → IsNextTurn judgement last.window last.iteration (turn_at (sides part).place) → BeforeTold
      by again e next =
          let own : last.window ≡ w = sym (ap (λ (t : ℕ × ℕ). t.0) (sym at ∙ next)) in
          let iteration : k ≡ last.iteration + 1 = ap (λ (t : ℕ × ℕ). t.1) (sym at ∙ next) in
          let before : last.iteration ≡ k - 1 = omega (arith, iteration) in
          subst (λ (j : ℕ). CourseTells plan (look_in sides) scheme w (start_of plan (look_in sides) w) j state.course) before
          (subst (λ (v : ℕ). CourseTells plan (look_in sides) scheme v (start_of plan (look_in sides) v) last.iteration state.course) own (is.repeats e))
      by converged e next = absurd (not_first (sym at ∙ next))
      by at_limit e next = absurd (not_first (sym at ∙ next))
      by (refused fault) e next = absurd next
