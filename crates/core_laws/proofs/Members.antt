-- Lists in which nothing stands twice, and what each of a list's numbers does.
use Rattle.std.proofs.Common.{◌≡◌, ℕ, ◌⊎◌, inl, inr, List, [], ◌∷◌, ◌++◌, refl, sym, subst, ◌∙◌, Contains, append_assoc}
use Rattle.std.proofs.lemmas.Bool.{cases_eq}
use Rattle.plan_order.proofs.Loops.{head_in, tail_in, in_cons}
use Rattle.plan_order.proofs.Orders.{none_in_nil}

module _ {X : Type 0} where
  pub in_first : (xs ys : List X) (x : X) → Contains xs x → Contains (xs ++ ys) x
  in_first [] ys x inside = absurd (none_in_nil x inside)
  in_first (y ∷ xs) ys x inside = elim (in_cons y xs x inside) [
    | inl same ↦ subst (λ (z : X). Contains (y ∷ (xs ++ ys)) z) same (head_in y (xs ++ ys))
    | inr further ↦ tail_in y (xs ++ ys) x (in_first xs ys x further)
  ]

  pub in_second : (xs ys : List X) (x : X) → Contains ys x → Contains (xs ++ ys) x
  in_second [] ys x inside = inside
  in_second (y ∷ xs) ys x inside = tail_in y (xs ++ ys) x (in_second xs ys x inside)

  pub in_joined : (xs ys : List X) (x : X) → Contains (xs ++ ys) x → Contains xs x ⊎ Contains ys x
  in_joined [] ys x inside = inr inside
  in_joined (y ∷ xs) ys x inside = elim (in_cons y (xs ++ ys) x inside) [
    | inl same ↦ inl (subst (λ (z : X). Contains (y ∷ xs) z) same (head_in y xs))
    | inr further ↦ elim (in_joined xs ys x further) [
      | inl here ↦ inl (tail_in y xs x here)
      | inr there ↦ inr there
    ]
  ]

  pub in_middle : (xs ys : List X) (x : X) → Contains (xs ++ x ∷ ys) x
  in_middle xs ys x = in_second xs (x ∷ ys) x (head_in x ys)

  pub in_last : (xs : List X) (y x : X) → Contains (xs ++ y ∷ []) x → Contains xs x ⊎ (y ≡ x)
  in_last xs y x inside = elim (in_joined xs (y ∷ []) x inside) [
    | inl here ↦ inl here
    | inr there ↦ elim (in_cons y [] x there) [ inl same ↦ inr same | inr none ↦ absurd (none_in_nil x none) ]
  ]

  pub one_further : (xs ys : List X) (y : X) → xs ++ y ∷ ys ≡ (xs ++ y ∷ []) ++ ys
  one_further xs ys y = sym (append_assoc xs (y ∷ []) ys)

  -- what stands at two places of a list, once each, stands after the same
  pub same_before : (xs ys us vs : List X) (x : X) → ¬ Contains xs x → ¬ Contains ys x → xs ++ x ∷ us ≡ ys ++ x ∷ vs → xs ≡ ys
  same_before [] [] us vs x none none' same = refl
  same_before [] (y ∷ ys) us vs x none none' same =
      let first : x ≡ y = cc in absurd (none' (subst (λ (z : X). Contains (y ∷ ys) z) (sym first) (head_in y ys)))
  same_before (y ∷ xs) [] us vs x none none' same =
      let first : y ≡ x = cc in absurd (none (subst (λ (z : X). Contains (y ∷ xs) z) first (head_in y xs)))
  same_before (y ∷ xs) (z ∷ ys) us vs x none none' same =
      let first : y ≡ z = cc in
      let rest : xs ++ x ∷ us ≡ ys ++ x ∷ vs = cc in
      let further : xs ≡ ys = same_before xs ys us vs x (λ inside. none (tail_in y xs x inside)) (λ inside. none' (tail_in z ys x inside)) rest in
      cc

  -- nothing stands in it twice
  abbrev pub Distinct : List X → Type 0
  Distinct [] = Unit {0}
  Distinct (x ∷ xs) = (¬ Contains xs x) × Distinct xs

  abbrev pub StandsOnce : List X → Type 0
  StandsOnce xs = (before after : List X) (x : X) → xs ≡ before ++ x ∷ after → (¬ Contains before x) × (¬ Contains after x)

  pub distinct_rest : (xs done rest : List X) → StandsOnce xs → xs ≡ done ++ rest → Distinct rest
  distinct_rest xs done [] once is = tt
  distinct_rest xs done (x ∷ rest) once is = ((once done rest x is).1, distinct_rest xs (done ++ x ∷ []) rest once (is ∙ one_further done rest x))

-- whether a number is in a list
pub is_in_or_not : (xs : List ℕ) (x : ℕ) → Contains xs x ⊎ (¬ Contains xs x)
is_in_or_not [] x = inr (none_in_nil x)
is_in_or_not (y ∷ xs) x = elim (cases_eq y x) [
  | inl same ↦ inl (subst (λ (z : ℕ). Contains (y ∷ xs) z) same (head_in y xs))
  | inr apart ↦ elim (is_in_or_not xs x) [
    | inl inside ↦ inl (tail_in y xs x inside)
    | inr none ↦ inr (λ inside. elim (in_cons y xs x inside) [ inl same ↦ apart same | inr further ↦ none further ])
  ]
]
