-- The participants' lines, one after another.
use Rattle.std.proofs.Common.{◌≡◌, ℕ, zero, suc, ◌+◌, ◌≤◌, List, [], ◌∷◌, ◌++◌, Some, ℤ, length, drop, slice_get, refl, sym, ap, ◌∙◌, arith, append_assoc, append-nil}
use Rattle.std.proofs.lemmas.Option.{same_Some, none-some}
use Rattle.cpl_plan.specs.declared.parts.PlanParts.{PlanParts}
use Rattle.watch_log.specs.ReportText.{participant_line, participants_text}

module _ (plan : PlanParts) where
  from_here : (p n : ℕ) (steps : List ℕ) (states : List (List ℤ)) (s : ℕ) (t : List ℤ) → slice_get steps p ≡ Some s → slice_get states p ≡ Some t
      → participants_text plan n (drop p steps) (drop p states) ≡ participant_line plan n s t ++ participants_text plan (suc n) (drop (suc p) steps) (drop (suc p) states)
  from_here p n [] states s t step state = absurd (none-some s step)
  from_here p n (x ∷ steps) [] s t step state = absurd (none-some t state)
  from_here zero n (x ∷ steps) (y ∷ states) s t step state =
      ap (λ (one : ℕ). participant_line plan n one y ++ participants_text plan (suc n) steps states) (same_Some x s step)
      ∙ ap (λ (one : List ℤ). participant_line plan n s one ++ participants_text plan (suc n) steps states) (same_Some y t state)
  from_here (suc p) n (x ∷ steps) (y ∷ states) s t step state = from_here p n steps states s t step state

  -- one line more
  pub one_more : (p : ℕ) (steps : List ℕ) (states : List (List ℤ)) (s : ℕ) (t : List ℤ) (before after all : List ℕ) → slice_get steps p ≡ Some s → slice_get states p ≡ Some t
      → after ≡ before ++ participant_line plan p s t → before ++ participants_text plan p (drop p steps) (drop p states) ≡ all
      → after ++ participants_text plan (p + 1) (drop (p + 1) steps) (drop (p + 1) states) ≡ all
  one_more p steps states s t before after all step state added so_far =
      let next : p + 1 ≡ suc p = omega arith in
      ap (λ (q : ℕ). after ++ participants_text plan q (drop q steps) (drop q states)) next
      ∙ ap (λ (text : List ℕ). text ++ participants_text plan (suc p) (drop (suc p) steps) (drop (suc p) states)) added
      ∙ append_assoc before (participant_line plan p s t) (participants_text plan (suc p) (drop (suc p) steps) (drop (suc p) states))
      ∙ ap (λ (rest : List ℕ). before ++ rest) (sym (from_here p p steps states s t step state))
      ∙ so_far

  -- past the last one nothing is left
  pub none_left : (p : ℕ) (steps : List ℕ) (states : List (List ℤ)) (text all : List ℕ) → length steps ≤ p
      → text ++ participants_text plan p (drop p steps) (drop p states) ≡ all → text ≡ all
  none_left p steps states text all past so_far = sym (ap (λ (rest : List ℕ). text ++ rest) (empty p p steps states past) ∙ append-nil text) ∙ so_far where
    empty : (q n : ℕ) (steps : List ℕ) (states : List (List ℤ)) → length steps ≤ q → participants_text plan n (drop q steps) (drop q states) ≡ []
    empty zero n [] states past = refl
    empty zero n (x ∷ steps) states past = absurd (omega (arith, past))
    empty (suc q) n [] [] past = refl
    empty (suc q) n [] (y ∷ states) past = refl
    empty (suc q) n (x ∷ steps) [] past = none steps q n past where
      none : (steps : List ℕ) (q n : ℕ) → suc (length steps) ≤ suc q → participants_text plan n (drop q steps) [] ≡ []
      none [] zero n past = refl
      none [] (suc q) n past = refl
      none (x ∷ steps) zero n past = refl
      none (x ∷ steps) (suc q) n past = none steps q n (omega (arith, past))
    empty (suc q) n (x ∷ steps) (y ∷ states) past = empty q n steps states (omega (arith, past))
