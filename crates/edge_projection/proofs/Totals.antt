-- Sums over the first numbers, one more at a time.
use Rattle.std.proofs.Common.{◌≡◌, ℕ, zero, suc, ◌+◌, ◌<◌, ◌≤◌, ℤ, pos, ◌+ℤ◌, List, [], ◌∷◌, ◌++◌, fold, sum_by, refl, sym, ap, ◌∙◌, inl, inr, arith}
use Rattle.std.specs.List.{range_with_len}
use Rattle.std.proofs.lemmas.Bool.{cases_eq}
use Rattle.std.proofs.lemmas.Int.{ints}
use Rattle.std.proofs.lemmas.List.{map-id}
use Rattle.std.proofs.lemmas.List.FromFn.{map-range_with_len_more}
use Rattle.std.proofs.lemmas.List.Sums.{fold_push, sum_by_push}
use Rattle.edge_projection.specs.MappedField.{total}

pub range_more : (n : ℕ) → range_with_len 0 (n + 1) ≡ range_with_len 0 n ++ n ∷ []
range_more n =
    sym (map-id (range_with_len 0 (n + 1)))
    ∙ map-range_with_len_more (λ (k : ℕ). k) 0 n n (omega arith)
    ∙ ap (λ (ks : List ℕ). ks ++ n ∷ []) (map-id (range_with_len 0 n))

pub sum_by-range_more : (f : ℕ → ℕ) (n : ℕ) → sum_by f (range_with_len 0 (n + 1)) ≡ sum_by f (range_with_len 0 n) + f n
sum_by-range_more f n = ap (sum_by f) (range_more n) ∙ sum_by_push f (range_with_len 0 n) n

pub total_more : (f : ℕ → ℤ) (n : ℕ) → total f (n + 1) ≡ total f n +ℤ f n
unfolding total
total_more f n =
    ap (fold (λ (so_far : ℤ) (v : ℕ). so_far +ℤ f v) (pos 0)) (range_more n)
    ∙ fold_push (λ (so_far : ℤ) (v : ℕ). so_far +ℤ f v) (pos 0) (range_with_len 0 n) n

pub total_suc : (f : ℕ → ℤ) (n : ℕ) → total f (suc n) ≡ total f n +ℤ f n
total_suc f n = let one : suc n ≡ n + 1 = omega arith in ap (total f) one ∙ total_more f n

pub total_none : (f : ℕ → ℤ) → total f 0 ≡ pos 0
unfolding total
total_none f = refl

pub total_same : (f g : ℕ → ℤ) (n : ℕ) → ((v : ℕ) → v < n → f v ≡ g v) → total f n ≡ total g n
total_same f g zero same = total_none f ∙ sym (total_none g)
total_same f g (suc n) same =
    total_suc f n
    ∙ ap (λ (sum : ℤ). sum +ℤ f n) (total_same f g n (λ v before. same v (omega arith)))
    ∙ ap (λ (x : ℤ). total g n +ℤ x) (same n (omega arith))
    ∙ sym (total_suc g n)

pub total_zeros : (f : ℕ → ℤ) (n : ℕ) → ((v : ℕ) → f v ≡ pos 0) → total f n ≡ pos 0
total_zeros f zero zeros = total_none f
total_zeros f (suc n) zeros = let more = total_suc f n in let before = total_zeros f n zeros in let here = zeros n in omega (arith, ints, more, before, here)

-- one function is the other, but more by x at the number k
total_kept : (f g : ℕ → ℤ) (k n : ℕ) → ((v : ℕ) → (k ≡ v → ⊥) → g v ≡ f v) → n ≤ k → total g n ≡ total f n
total_kept f g k n kept low = total_same g f n (λ v before. kept v (λ same. omega (arith, same, before, low)))

pub total_raised : (f g : ℕ → ℤ) (x : ℤ) (k n : ℕ) → ((v : ℕ) → (k ≡ v → ⊥) → g v ≡ f v) → g k ≡ f k +ℤ x → k < n → total g n ≡ total f n +ℤ x
total_raised f g x k zero kept raised within = absurd (omega arith)
total_raised f g x k (suc n) kept raised within =
    let of_f = total_suc f n in
    let of_g = total_suc g n in
    elim (cases_eq k n) [
      | inl last ↦
          let before = total_kept f g k n kept (omega arith) in
          let f_here = ap f last in
          let g_here = ap g last in
          omega (arith, ints, of_f, of_g, before, raised, f_here, g_here)
      | inr other ↦
          let before = total_raised f g x k n kept raised (omega (arith, other, within)) in
          let here = kept n other in
          omega (arith, ints, of_f, of_g, before, here)
    ]
