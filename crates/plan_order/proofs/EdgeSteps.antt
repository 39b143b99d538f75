-- One edge more in a loop over edges.
use Rattle.std.proofs.Common.{◌≡◌, ℕ, zero, suc, ◌+◌, ◌<◌, ◌≤◌, inl, inr, length, get_or, take, ◌&&◌, cond, List, [], ◌∷◌, ◌++◌, ap, sym, subst, ◌∙◌, arith, count_by, eqb, set}
use Rattle.std.proofs.lemmas.Bool.{cases_Bool, eqb-true, eqb-false}
use Rattle.std.proofs.lemmas.List.{get_or-set_same, get_or-set_other}
use Rattle.std.proofs.lemmas.List.Sums.{count_by-le-length, sum_by_push}
use Rattle.plan_order.specs.Edges.{edges_to}

-- a count is at most the number of edges
pub few_edges : (edges : List (ℕ × ℕ)) (i b : ℕ) → edges_to (take i edges) b ≤ i
few_edges edges i b = omega (arith, count_by-le-length (λ (edge : ℕ × ℕ). eqb edge.1 b) (take i edges), short edges i)
  where
    short : (xs : List (ℕ × ℕ)) (i : ℕ) → length (take i xs) ≤ i
    short [] zero = omega arith
    short [] (suc i) = omega arith
    short (x ∷ xs) zero = omega arith
    short (x ∷ xs) (suc i) = omega (arith, short xs i)

-- one of the counts goes up by one
pub count_more : (counts : List ℕ) (at old b : ℕ) → at < length counts → old ≡ get_or counts at 0 → get_or (set counts at (old + 1)) b 0 ≡ get_or counts b 0 + cond (eqb at b) 1 0
count_more counts at old b within is =
    elim (cases_Bool (eqb at b)) [
      | inl same ↦
          let e : at ≡ b = eqb-true at b same in
          subst (λ (j : ℕ). get_or (set counts at (old + 1)) j 0 ≡ get_or counts j 0 + cond (eqb at b) 1 0) e
          (get_or-set_same counts at (old + 1) 0 within ∙ (ap (λ n. n + 1) is ∙ ap (λ n. get_or counts at 0 + n) (sym (ap (λ t. cond t 1 0) same))))
      | inr other ↦
          get_or-set_other counts at b (old + 1) 0 (λ e. eqb-false at b other (sym e))
          ∙ (omega arith ∙ ap (λ n. get_or counts b 0 + n) (sym (ap (λ t. cond t 1 0) other)))
    ]

-- how many times b is in a list
abbrev pub times : ℕ → List ℕ → ℕ
times b ends = count_by (λ end. eqb end b) ends

-- one of the lists gets one end more
pub ends_more : {V : Type 0} (items : V → List ℕ) (after : List V) (at end : ℕ) (new : V) (a b : ℕ) (d : V) → at < length after
    → items new ≡ items (get_or after at d) ++ end ∷ []
    → times b (items (get_or (set after at new) a d)) ≡ times b (items (get_or after a d)) + cond (eqb at a && eqb end b) 1 0
ends_more items after at end new a b d within is =
    elim (cases_Bool (eqb at a)) [
      | inl same ↦
          let e : at ≡ a = eqb-true at a same in
          subst (λ (j : ℕ). times b (items (get_or (set after at new) j d)) ≡ times b (items (get_or after j d)) + cond (eqb at a && eqb end b) 1 0) e
          (ap (λ v. times b (items v)) (get_or-set_same after at new d within)
          ∙ (ap (times b) is
          ∙ (sum_by_push (λ n. cond (eqb n b) 1 0) (items (get_or after at d)) end
          ∙ ap (λ n. times b (items (get_or after at d)) + n) (sym (ap (λ t. cond (t && eqb end b) 1 0) same)))))
      | inr other ↦
          ap (λ v. times b (items v)) (get_or-set_other after at a new d (λ e. eqb-false at a other (sym e)))
          ∙ (omega arith ∙ ap (λ n. times b (items (get_or after a d)) + n) (sym (ap (λ t. cond (t && eqb end b) 1 0) other)))
    ]

-- one more list, which is empty
pub empty_more : {V : Type 0} (items : V → List ℕ) (after : List V) (new : V) → items new ≡ []
    → ((a b : ℕ) → a < length after → (d : V) → times b (items (get_or after a d)) ≡ 0)
    → (a b : ℕ) → a < length after + 1 → (d : V) → times b (items (get_or (after ++ new ∷ []) a d)) ≡ 0
empty_more items [] new is old zero b within d = ap (times b) is
empty_more items [] new is old (suc a) b within d = absurd (omega arith)
empty_more items (v ∷ after) new is old zero b within d = old zero b (omega arith) d
empty_more items (v ∷ after) new is old (suc a) b within d =
    empty_more items after new is (λ k b' below d'. old (suc k) b' (omega arith) d') a b (omega arith) d
