-- The numbers that wait for none, in a loop that goes on by one number.
use Rattle.std.proofs.Common.{◌≡◌, ℕ, ◌+◌, ◌-◌, ◌<◌, ◌≤◌, ◌⊎◌, ◌↔◌, inl, inr, length, get_or, set, take, cond, List, [], ◌∷◌, ◌++◌, refl, ap, sym, subst, ◌∙◌, arith, Contains, eqb}
use Rattle.std.proofs.lemmas.Bool.{cases_eq, eq-eqb, ne_eqb}
use Rattle.std.proofs.lemmas.List.{take_more, get_or-set_same, get_or-set_other}
use Rattle.std.proofs.lemmas.List.Elements.{Contains-push, Contains-push_cases, Contains-append_left}
use Rattle.std.proofs.lemmas.List.Sums.{sum_by_more, sum_by-take-drop, sum_by-drop_more}
use Rattle.plan_order.proofs.EdgeSteps.{times}

pub seen_more : (xs : List ℕ) (i b : ℕ) → i < length xs → Contains (take (i + 1) xs) b → Contains (take i xs) b ⊎ (get_or xs i 0 ≡ b)
seen_more xs i b within inside =
    Contains-push_cases (take i xs) (get_or xs i 0) b (subst (λ (ys : List ℕ). Contains ys b) (take_more xs i 0 within) inside)

seen_before : (xs : List ℕ) (i b : ℕ) → i < length xs → Contains (take i xs) b → Contains (take (i + 1) xs) b
seen_before xs i b within inside =
    subst (λ (ys : List ℕ). Contains ys b) (sym (take_more xs i 0 within)) (Contains-append_left (take i xs) (get_or xs i 0 ∷ []) b inside)

seen_here : (xs : List ℕ) (i b : ℕ) → i < length xs → get_or xs i 0 ≡ b → Contains (take (i + 1) xs) b
seen_here xs i b within same =
    subst (λ (ys : List ℕ). Contains ys b) (sym (take_more xs i 0 within))
    (subst (λ (y : ℕ). Contains (take i xs ++ get_or xs i 0 ∷ []) y) same (Contains-push (take i xs) (get_or xs i 0)))

-- in a loop that changes no count
pub free_more : (ids waits : List ℕ) (i b : ℕ) (old new : Type 0) → i < length ids
    → old ↔ (Contains (take i ids) b × (get_or waits b 0 ≡ 0))
    → new ↔ (old ⊎ ((get_or ids i 0 ≡ b) × (get_or waits b 0 ≡ 0)))
    → new ↔ (Contains (take (i + 1) ids) b × (get_or waits b 0 ≡ 0))
free_more ids waits i b old new within was now = (
  λ is. elim (now.0 is) [
    | inl before ↦ let both = was.0 before in (seen_before ids i b within both.0, both.1)
    | inr here ↦ (seen_here ids i b within here.0, here.1)
  ],
  λ (inside, free). elim (seen_more ids i b within inside) [
    | inl before ↦ now.1 (inl (was.1 (before, free)))
    | inr here ↦ now.1 (inr (here, free))
  ],
)

-- a count goes down by one
pub less_here : (waits : List ℕ) (at b : ℕ) → at < length waits → at ≡ b → get_or (set waits at (get_or waits at 0 - 1)) b 0 ≡ get_or waits b 0 - 1
less_here waits at b within same =
    subst (λ (j : ℕ). get_or (set waits at (get_or waits at 0 - 1)) j 0 ≡ get_or waits j 0 - 1) same (get_or-set_same waits at (get_or waits at 0 - 1) 0 within)

pub less_elsewhere : (waits : List ℕ) (at b : ℕ) → (at ≡ b → ⊥) → get_or (set waits at (get_or waits at 0 - 1)) b 0 ≡ get_or waits b 0
less_elsewhere waits at b apart = get_or-set_other waits at b (get_or waits at 0 - 1) 0 (λ e. apart (sym e))

-- in a loop that lowers the count of each number that it comes to
pub freed_more : (ends waits : List ℕ) (i b : ℕ) (first old new : Type 0) → i < length ends → get_or ends i 0 < length waits
    → old ↔ (first ⊎ (Contains (take i ends) b × (get_or waits b 0 ≡ 0)))
    → let waits' = set waits (get_or ends i 0) (get_or waits (get_or ends i 0) 0 - 1) in
    new ↔ (old ⊎ ((get_or ends i 0 ≡ b) × (get_or waits' b 0 ≡ 0)))
    → new ↔ (first ⊎ (Contains (take (i + 1) ends) b × (get_or waits' b 0 ≡ 0)))
freed_more ends waits i b first old new within bound was now = (
  λ is. elim (now.0 is) [
    | inl before ↦ elim (was.0 before) [
      | inl f ↦ inl f
      | inr both ↦ inr (seen_before ends i b within both.0, still both.1)
    ]
    | inr here ↦ inr (seen_here ends i b within here.0, here.1)
  ],
  λ is. elim is [
    | inl f ↦ now.1 (inl (was.1 (inl f)))
    | inr both ↦ elim (cases_eq (get_or ends i 0) b) [
      | inl same ↦ now.1 (inr (same, both.1))
      | inr apart ↦ elim (seen_more ends i b within both.0) [
        | inl before ↦ now.1 (inl (was.1 (inr (before, sym (less_elsewhere waits (get_or ends i 0) b apart) ∙ both.1))))
        | inr same ↦ now.1 (inr (same, both.1))
      ]
    ]
  ],
)
  where
    still : get_or waits b 0 ≡ 0 → get_or (set waits (get_or ends i 0) (get_or waits (get_or ends i 0) 0 - 1)) b 0 ≡ 0
    still none =
        elim (cases_eq (get_or ends i 0) b) [
          | inl same ↦ omega (arith, less_here waits (get_or ends i 0) b bound same)
          | inr apart ↦ less_elsewhere waits (get_or ends i 0) b apart ∙ none
        ]

-- what is left of a count, and what has been taken from it
pub taken_more : (ends waits : List ℕ) (i b whole : ℕ) → i < length ends → get_or ends i 0 < length waits → 1 ≤ get_or waits (get_or ends i 0) 0
    → get_or waits b 0 + times b (take i ends) ≡ whole
    → get_or (set waits (get_or ends i 0) (get_or waits (get_or ends i 0) 0 - 1)) b 0 + times b (take (i + 1) ends) ≡ whole
taken_more ends waits i b whole within bound some was =
    elim (cases_eq (get_or ends i 0) b) [
      | inl same ↦
          let one : cond (eqb (get_or ends i 0) b) 1 0 + 0 ≡ 1 = ap (λ t. cond t 1 0 + 0) (eq-eqb (get_or ends i 0) b same) in
          let some' : 1 ≤ get_or waits b 0 = subst (λ (j : ℕ). 1 ≤ get_or waits j 0) same some in
          omega (arith, one, some', was, more, less_here waits (get_or ends i 0) b bound same)
      | inr apart ↦
          let none : cond (eqb (get_or ends i 0) b) 1 0 + 0 ≡ 0 = ap (λ t. cond t 1 0 + 0) (ne_eqb (get_or ends i 0) b apart) in
          omega (arith, none, was, more, less_elsewhere waits (get_or ends i 0) b apart)
    ]
  where
    more : times b (take (i + 1) ends) ≡ times b (take i ends) + cond (eqb (get_or ends i 0) b) 1 0
    more = sum_by_more (λ end. cond (eqb end b) 1 0) ends i 0 within

-- a number that is still to come has not been counted down to nothing
pub some_left : (ends waits : List ℕ) (i : ℕ) (whole : ℕ) → i < length ends → times (get_or ends i 0) ends ≤ whole
    → get_or waits (get_or ends i 0) 0 + times (get_or ends i 0) (take i ends) ≡ whole → 1 ≤ get_or waits (get_or ends i 0) 0
some_left ends waits i whole within enough was =
    let one : cond (eqb (get_or ends i 0) (get_or ends i 0)) 1 0 + 0 ≡ 1 =
    ap (λ t. cond t 1 0 + 0) (eq-eqb (get_or ends i 0) (get_or ends i 0) refl) in
    omega (
      arith,
      one,
      enough,
      was,
      sum_by-take-drop (λ end. cond (eqb end (get_or ends i 0)) 1 0) ends i,
      sum_by-drop_more (λ end. cond (eqb end (get_or ends i 0)) 1 0) ends i 0 within,
    )
