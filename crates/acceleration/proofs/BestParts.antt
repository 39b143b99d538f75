-- That no part of the last step leaves less of the residual than the one that Aitken's method takes.
use Rattle.std.proofs.Common.{◌≡◌, ℕ, zero, suc, ◌*◌, ◌^◌, ◌<◌, ◌≤◌, List, [], ◌∷◌, length, ℤ, pos, negsuc, neg_ℤ, ◌+ℤ◌, ◌-ℤ◌, ◌*ℤ◌, ◌≤ℤ◌, unsigned_abs, inl, inr, arith, refl, ap, sym, subst, ◌∙◌}
use Rattle.std.specs.List.{sum_by}
use Rattle.std.proofs.Math.IntN.{*ℤ_comm, zero-*ℤ, neg_ℤ-neg_ℤ}
use Rattle.std.proofs.lemmas.Bool.{cases_lt}
use Rattle.std.proofs.lemmas.Int.{ints, clamps}
use Rattle.fixed_num.specs.Norm.{square, product_sum}
use Rattle.fixed_num.specs.Numbers.{quotient, distance, nearest_of}
use Rattle.fixed_num.specs.Relaxation.{projection, within, aitken_factor}
use Rattle.fixed_num.proofs.Quotients.{quotient-IsRoundedQuotient, quotient-le}
use Rattle.acceleration.specs.Factors.{factor_after}
use Rattle.acceleration.specs.BestPart.{HasChanged, expected_residual, expected_square, best_part}
use Rattle.acceleration.proofs.Sums.{product_sum-cons, square-is, squares-are}
use Rattle.acceleration.proofs.NextFactors.{factor_stays, factor_moves}
use Rattle.fixed_num.proofs.SignedProducts.{sum_times, times_sum, product_assoc, neg_times, times_neg, square_of_sum}

abbrev million : ℤ
million = pos (10 ^ 6)

-- ---- one part further
-- the entry after one part and k more
entry_more : (b d p k : ℤ) → million *ℤ b +ℤ (p +ℤ k) *ℤ d ≡ (million *ℤ b +ℤ p *ℤ d) +ℤ k *ℤ d
entry_more b d p k = let parts = sum_times p k d in omega (arith, ints, parts)

-- twice a product and k times a square, times k
abbrev growth : (k inner changed : ℤ) → ℤ
growth k inner changed = k *ℤ (pos 2 *ℤ inner +ℤ k *ℤ changed)

growth-none : (k : ℤ) → growth k (pos 0) (pos 0) ≡ pos 0
growth-none k =
    let a : pos 2 *ℤ pos 0 ≡ pos 0 = refl in
    let b : k *ℤ pos 0 ≡ pos 0 = *ℤ_comm k (pos 0) ∙ zero-*ℤ k in
    ap (λ (z : ℤ). k *ℤ (pos 0 +ℤ z)) b ∙ b

growth-sum : (k inner changed inners changeds : ℤ) → growth k (inner +ℤ inners) (changed +ℤ changeds) ≡ growth k inner changed +ℤ growth k inners changeds
growth-sum k inner changed inners changeds =
    let a = times_sum (pos 2) inner inners in
    let b = times_sum k changed changeds in
    let whole : pos 2 *ℤ (inner +ℤ inners) +ℤ k *ℤ (changed +ℤ changeds) ≡ (pos 2 *ℤ inner +ℤ k *ℤ changed) +ℤ (pos 2 *ℤ inners +ℤ k *ℤ changeds) = omega (arith, ints, a, b) in
    ap (λ (z : ℤ). k *ℤ z) whole ∙ times_sum k (pos 2 *ℤ inner +ℤ k *ℤ changed) (pos 2 *ℤ inners +ℤ k *ℤ changeds)

-- the square of an entry, k more
square_more : (r d k : ℤ) → (r +ℤ k *ℤ d) *ℤ (r +ℤ k *ℤ d) ≡ r *ℤ r +ℤ growth k (r *ℤ d) (d *ℤ d)
square_more r d k =
    let whole = square_of_sum r (k *ℤ d) in
    let inner : pos 2 *ℤ (r *ℤ (k *ℤ d)) ≡ k *ℤ (pos 2 *ℤ (r *ℤ d)) =
    ap (λ (z : ℤ). pos 2 *ℤ z) (sym (product_assoc r k d) ∙ ap (λ (z : ℤ). z *ℤ d) (*ℤ_comm r k) ∙ product_assoc k r d)
    ∙ sym (product_assoc (pos 2) k (r *ℤ d)) ∙ ap (λ (z : ℤ). z *ℤ (r *ℤ d)) (*ℤ_comm (pos 2) k) ∙ product_assoc k (pos 2) (r *ℤ d) in
    let changed : (k *ℤ d) *ℤ (k *ℤ d) ≡ k *ℤ (k *ℤ (d *ℤ d)) =
    product_assoc k d (k *ℤ d) ∙ ap (λ (z : ℤ). k *ℤ z) (sym (product_assoc d k d) ∙ ap (λ (z : ℤ). z *ℤ d) (*ℤ_comm d k) ∙ product_assoc k d d) in
    let both = times_sum k (pos 2 *ℤ (r *ℤ d)) (k *ℤ (d *ℤ d)) in
    omega (arith, ints, whole, inner, changed, both)

squares_after : (before change : List ℤ) (part : ℤ) → ℤ
squares_after before change part = product_sum (expected_residual before change part) (expected_residual before change part)

inner_after : (before change : List ℤ) (part : ℤ) → ℤ
inner_after before change part = product_sum (expected_residual before change part) change

squares_after-cons : (b d p : ℤ) (before change : List ℤ)
    → squares_after (b ∷ before) (d ∷ change) p ≡ (million *ℤ b +ℤ p *ℤ d) *ℤ (million *ℤ b +ℤ p *ℤ d) +ℤ squares_after before change p
unfolding squares_after
squares_after-cons b d p before change =
    product_sum-cons (million *ℤ b +ℤ p *ℤ d) (million *ℤ b +ℤ p *ℤ d) (expected_residual before change p) (expected_residual before change p)

inner_after-cons : (b d p : ℤ) (before change : List ℤ)
    → inner_after (b ∷ before) (d ∷ change) p ≡ (million *ℤ b +ℤ p *ℤ d) *ℤ d +ℤ inner_after before change p
unfolding inner_after
inner_after-cons b d p before change = product_sum-cons (million *ℤ b +ℤ p *ℤ d) d (expected_residual before change p) change

squares_none : (p k : ℤ) → squares_after [] [] (p +ℤ k) ≡ squares_after [] [] p +ℤ growth k (inner_after [] [] p) (product_sum [] [])
unfolding squares_after inner_after
squares_none p k = let none = growth-none k in omega (arith, ints, none)

inner_none : (p : ℤ) → inner_after [] [] p ≡ million *ℤ product_sum [] [] +ℤ p *ℤ product_sum [] []
unfolding inner_after
inner_none p = let none = *ℤ_comm p (pos 0) ∙ zero-*ℤ p in omega (arith, ints, none)

-- the sum of squares, k more
squares_more : (before change : List ℤ) (p k : ℤ) → length before ≡ length change
    → squares_after before change (p +ℤ k) ≡ squares_after before change p +ℤ growth k (inner_after before change p) (product_sum change change)
squares_more [] [] p k same = squares_none p k
squares_more [] (d ∷ change) p k same = absurd (omega (arith, same))
squares_more (b ∷ before) [] p k same = absurd (omega (arith, same))
squares_more (b ∷ before) (d ∷ change) p k same =
    let r : ℤ = million *ℤ b +ℤ p *ℤ d in
    let further = squares_after-cons b d (p +ℤ k) before change in
    let entry : (million *ℤ b +ℤ (p +ℤ k) *ℤ d) *ℤ (million *ℤ b +ℤ (p +ℤ k) *ℤ d) ≡ (million *ℤ b +ℤ p *ℤ d) *ℤ (million *ℤ b +ℤ p *ℤ d) +ℤ growth k ((million *ℤ b +ℤ p *ℤ d) *ℤ d) (d *ℤ d) =
    ap (λ (z : ℤ). z *ℤ z) (entry_more b d p k) ∙ square_more (million *ℤ b +ℤ p *ℤ d) d k in
    let rest = squares_more before change p k (omega (arith, same)) in
    let here = squares_after-cons b d p before change in
    let grown = growth-sum k ((million *ℤ b +ℤ p *ℤ d) *ℤ d) (d *ℤ d) (inner_after before change p) (product_sum change change) in
    let all = ap (λ (z : ℤ). growth k z (product_sum (d ∷ change) (d ∷ change))) (inner_after-cons b d p before change)
    ∙ ap (λ (z : ℤ). growth k ((million *ℤ b +ℤ p *ℤ d) *ℤ d +ℤ inner_after before change p) z) (product_sum-cons d d change change) in
    omega (arith, ints, further, entry, rest, here, grown, all)

-- the product of what is expected with the change
inner_is : (before change : List ℤ) (p : ℤ) → length before ≡ length change
    → inner_after before change p ≡ million *ℤ product_sum before change +ℤ p *ℤ product_sum change change
inner_is [] [] p same = inner_none p
inner_is [] (d ∷ change) p same = absurd (omega (arith, same))
inner_is (b ∷ before) [] p same = absurd (omega (arith, same))
inner_is (b ∷ before) (d ∷ change) p same =
    let here = inner_after-cons b d p before change in
    let rest = inner_is before change p (omega (arith, same)) in
    let entry = sum_times (million *ℤ b) (p *ℤ d) d in
    let first = product_assoc million b d in
    let second = product_assoc p d d in
    let products = ap (λ (z : ℤ). million *ℤ z) (product_sum-cons b d before change) ∙ times_sum million (b *ℤ d) (product_sum before change) in
    let squares = ap (λ (z : ℤ). p *ℤ z) (product_sum-cons d d change change) ∙ times_sum p (d *ℤ d) (product_sum change change) in
    omega (arith, ints, here, rest, entry, first, second, products, squares)

-- ---- signs of products
natural_times : (m : ℕ) (z : ℤ) → pos 0 ≤ℤ z → pos 0 ≤ℤ (pos m *ℤ z)
natural_times m (pos z) h = omega (arith, ints)
natural_times m (negsuc z) h = absurd (omega (arith, ints, h))

natural_opposite : (m : ℕ) (z : ℤ) → z ≤ℤ pos 0 → (pos m *ℤ z) ≤ℤ pos 0
natural_opposite m (pos zero) h = let none = *ℤ_comm (pos m) (pos 0) ∙ zero-*ℤ (pos m) in omega (arith, ints, none)
natural_opposite m (pos (suc z)) h = absurd (omega (arith, ints, h))
natural_opposite m (negsuc z) h = omega (arith, ints)

negative_times : (m : ℕ) (z : ℤ) → z ≤ℤ pos 0 → pos 0 ≤ℤ (negsuc m *ℤ z)
negative_times m (pos zero) h = let none = *ℤ_comm (negsuc m) (pos 0) ∙ zero-*ℤ (negsuc m) in omega (arith, ints, none)
negative_times m (pos (suc z)) h = absurd (omega (arith, ints, h))
negative_times m (negsuc z) h = omega (arith, ints)

negative_natural : (m : ℕ) (z : ℤ) → pos 0 ≤ℤ z → (negsuc m *ℤ z) ≤ℤ pos 0
negative_natural m (pos z) h = omega (arith, ints)
negative_natural m (negsuc z) h = absurd (omega (arith, ints, h))

-- ---- the best part
-- a step that goes on from where the slope lies within half a square
grows : (inner : ℤ) (changed : ℕ) (k : ℤ)
    → (pos 1 ≤ℤ k → neg_ℤ (pos changed) ≤ℤ (pos 2 *ℤ inner)) → (k ≤ℤ negsuc 0 → (pos 2 *ℤ inner) ≤ℤ pos changed)
    → pos 0 ≤ℤ growth k inner (pos changed)
grows inner changed (pos zero) forward back = natural_none (pos 2 *ℤ inner +ℤ pos 0 *ℤ pos changed)
  where
    natural_none : (z : ℤ) → pos 0 ≤ℤ (pos 0 *ℤ z)
    natural_none z = let none = zero-*ℤ z in omega (arith, ints, none)
grows inner changed (pos (suc n)) forward back =
    let slope = forward (omega (arith, ints)) in
    let far : changed ≤ suc n * changed = omega arith in
    natural_times (suc n) (pos 2 *ℤ inner +ℤ pos (suc n * changed)) (omega (arith, ints, slope, far))
grows inner changed (negsuc n) forward back =
    let slope = back (omega (arith, ints)) in
    let far : changed ≤ suc n * changed = omega arith in
    let is : negsuc n *ℤ pos changed ≡ neg_ℤ (pos (suc n * changed)) = refl in
    negative_times n (pos 2 *ℤ inner +ℤ negsuc n *ℤ pos changed) (omega (arith, ints, slope, far, is))

-- where a number stands against the limits
data Clamped (limit : ℕ) (a : ℤ) : Type 0 where
  between : within limit a ≡ a → Clamped limit a
  above : within limit a ≡ pos limit → (pos limit +ℤ pos 1) ≤ℤ a → Clamped limit a
  below : within limit a ≡ neg_ℤ (pos limit) → a ≤ℤ (neg_ℤ (pos limit) -ℤ pos 1) → Clamped limit a

clamped : (limit : ℕ) (a : ℤ) → Clamped limit a
clamped limit (pos n) =
    elim (cases_lt limit n) [
      | inl over ↦ above (omega (arith, ints, clamps, over)) (omega (arith, ints, over))
      | inr inside ↦ between (omega (arith, ints, clamps, inside))
    ]
clamped limit (negsuc n) =
    elim (cases_lt limit (suc n)) [
      | inl over ↦ below (omega (arith, ints, clamps, over)) (omega (arith, ints, over))
      | inr inside ↦ between (omega (arith, ints, clamps, inside))
    ]

-- a number beyond another by one or more, times a natural
beyond : (a b : ℤ) (s : ℕ) → (b +ℤ pos 1) ≤ℤ a → (b *ℤ pos s +ℤ pos s) ≤ℤ (a *ℤ pos s)
beyond a b s past = by_gap (a -ℤ (b +ℤ pos 1)) refl
  where
    by_gap : (gap : ℤ) → a -ℤ (b +ℤ pos 1) ≡ gap → (b *ℤ pos s +ℤ pos s) ≤ℤ (a *ℤ pos s)
    by_gap (pos j) is =
        let whole : a ≡ (b +ℤ pos 1) +ℤ pos j = omega (arith, ints, is) in
        let parts = sum_times (b +ℤ pos 1) (pos j) (pos s) in
        let first = sum_times b (pos 1) (pos s) in
        let one : pos 1 *ℤ pos s ≡ pos s = ap pos (omega arith) in
        let rest : pos 0 ≤ℤ (pos j *ℤ pos s) = omega (arith, ints) in
        subst (λ (z : ℤ). (b *ℤ pos s +ℤ pos s) ≤ℤ (z *ℤ pos s)) (sym whole) (omega (arith, ints, parts, first, one, rest))
    by_gap (negsuc j) is = absurd (omega (arith, ints, is, past))

-- at the clamped quotient no other part within the limit is lower
lowest : (e q part : ℤ) (s limit : ℕ) → 2 * distance e s q ≤ s → unsigned_abs part ≤ limit
    → pos 0 ≤ℤ growth (part +ℤ within limit q) (e -ℤ within limit q *ℤ pos s) (pos s)
lowest e q part s limit near small = by_place (clamped limit q)
  where
    close : (m : ℤ) → 2 * unsigned_abs (e -ℤ m) ≤ s → (neg_ℤ (pos s) ≤ℤ (pos 2 *ℤ (e -ℤ m))) × ((pos 2 *ℤ (e -ℤ m)) ≤ℤ pos s)
    close m h = (omega (arith, ints, h), omega (arith, ints, h))

    by_place : Clamped limit q → pos 0 ≤ℤ growth (part +ℤ within limit q) (e -ℤ within limit q *ℤ pos s) (pos s)
    by_place (between is) =
        let both = close (q *ℤ pos s) near in
        rw is (grows (e -ℤ q *ℤ pos s) s (part +ℤ q) (λ _. both.0) (λ _. both.1))
    by_place (above is past) =
        let both = close (q *ℤ pos s) near in
        let far = beyond q (pos limit) s past in
        rw is (grows (e -ℤ pos limit *ℤ pos s) s (part +ℤ pos limit)
        (λ _. omega (arith, ints, both.0, far)) (λ back. absurd (omega (arith, ints, back, small))))
    by_place (below is past) =
        let both = close (q *ℤ pos s) near in
        let far = beyond (neg_ℤ (pos limit)) q s (omega (arith, ints, past)) in
        rw is (grows (e -ℤ neg_ℤ (pos limit) *ℤ pos s) s (part +ℤ neg_ℤ (pos limit))
        (λ forward. absurd (omega (arith, ints, forward, small))) (λ _. omega (arith, ints, both.1, far)))

-- what is expected at the best part is at most what is at any other
pub best_part-least : (before change : List ℤ) (part : ℤ) → length before ≡ length change → HasChanged change → unsigned_abs part ≤ 10 ^ 12
    → expected_square before change (best_part before change) ≤ expected_square before change part
unfolding squares_after
best_part-least before change part same changed small =
    let s = sum_by square change in
    let dot = product_sum before change in
    let best = projection dot s in
    let near = (quotient-IsRoundedQuotient (dot *ℤ million) s changed).near in
    let low = lowest (dot *ℤ million) (quotient (dot *ℤ million) s) part s (10 ^ 12) near small in
    let inner : inner_after before change (neg_ℤ best) ≡ dot *ℤ million -ℤ best *ℤ pos s =
    inner_is before change (neg_ℤ best) same
    ∙ ap (λ (z : ℤ). z +ℤ neg_ℤ best *ℤ product_sum change change) (*ℤ_comm million dot)
    ∙ ap (λ (z : ℤ). dot *ℤ million +ℤ neg_ℤ best *ℤ z) (sym (squares-are change))
    ∙ ap (λ (z : ℤ). dot *ℤ million +ℤ z) (neg_times best (pos s)) in
    let grown = squares_more before change (neg_ℤ best) (part +ℤ best) same
    ∙ ap (λ (z : ℤ). squares_after before change (neg_ℤ best) +ℤ growth (part +ℤ best) z (product_sum change change)) inner
    ∙ ap (λ (z : ℤ). squares_after before change (neg_ℤ best) +ℤ growth (part +ℤ best) (dot *ℤ million -ℤ best *ℤ pos s) z) (sym (squares-are change)) in
    let there : neg_ℤ best +ℤ (part +ℤ best) ≡ part = omega (arith, ints) in
    let at_part = ap (squares_after before change) (sym there) ∙ grown in
    let first = squares-are (expected_residual before change (neg_ℤ best)) in
    let second = squares-are (expected_residual before change part) in
    omega (arith, ints, low, at_part, first, second)

-- ---- the factor
quotient-neg : (a : ℤ) → quotient (neg_ℤ a) (10 ^ 6) ≡ neg_ℤ (quotient a (10 ^ 6))
unfolding quotient nearest_of
quotient-neg (pos zero) = refl
quotient-neg (pos (suc n)) = refl
quotient-neg (negsuc n) = sym (neg_ℤ-neg_ℤ (pos (nearest_of (suc n) (10 ^ 6))))

pub sum_of_squares-is : (change : List ℤ) → unsigned_abs (product_sum change change) ≡ sum_by square change
sum_of_squares-is change = sym (ap unsigned_abs (squares-are change))

-- the next factor is the last times the best part
pub factor-best : (factor : ℤ) (before change : List ℤ) → HasChanged change
    → factor_after factor before change ≡ within (10 ^ 9) (quotient (factor *ℤ best_part before change) (10 ^ 6))
factor-best factor before change changed =
    let s = sum_by square change in
    let is = sum_of_squares-is change in
    let best = projection (product_sum before change) s in
    factor_moves factor before change (λ none. omega (arith, is, none, changed))
    ∙ ap (aitken_factor factor (product_sum before change)) is
    ∙ ap (within (10 ^ 9)) (sym (quotient-neg (factor *ℤ best)))
    ∙ ap (λ (z : ℤ). within (10 ^ 9) (quotient z (10 ^ 6))) (sym (times_neg factor best))

pub factor-still : (factor : ℤ) (before change : List ℤ) → ¬ HasChanged change → factor_after factor before change ≡ factor
factor-still factor before change still =
    let is = sum_of_squares-is change in
    factor_stays factor before change (elim (cases_lt 0 (sum_by square change)) [ inl more ↦ absurd (still more) | inr none ↦ omega (arith, is, none) ])

-- ---- the sign
negative_quotient : (a b : ℕ) → quotient (negsuc a) b ≤ℤ pos 0
unfolding quotient
negative_quotient a b = omega (arith, ints)

opposite_quotient : (a : ℤ) (b : ℕ) → 0 < b → a ≤ℤ pos 0 → quotient a b ≤ℤ pos 0
opposite_quotient (pos zero) b some h = let small = quotient-le (pos 0) b 0 some (omega arith) in omega (arith, ints, small)
opposite_quotient (pos (suc a)) b some h = absurd (omega (arith, ints, h))
opposite_quotient (negsuc a) b some h = negative_quotient a b

natural_quotient : (a : ℤ) (b : ℕ) → pos 0 ≤ℤ a → pos 0 ≤ℤ quotient a b
unfolding quotient
natural_quotient (pos a) b h = omega (arith, ints)
natural_quotient (negsuc a) b h = absurd (omega (arith, ints, h))

within-natural : (limit : ℕ) (a : ℤ) → pos 0 ≤ℤ a → pos 0 ≤ℤ within limit a
within-natural limit (pos a) h = omega (arith, ints, clamps)
within-natural limit (negsuc a) h = absurd (omega (arith, ints, h))

within-opposite : (limit : ℕ) (a : ℤ) → a ≤ℤ pos 0 → within limit a ≤ℤ pos 0
within-opposite limit (pos a) h = omega (arith, ints, clamps, h)
within-opposite limit (negsuc a) h = omega (arith, ints, clamps)

abbrev scaled : (limit : ℕ) (factor part : ℤ) → ℤ
scaled limit factor part = within limit (quotient (factor *ℤ part) (10 ^ 6))

scaled-same : (limit : ℕ) (factor part : ℤ) → pos 0 ≤ℤ part → pos 0 ≤ℤ (factor *ℤ scaled limit factor part)
scaled-same limit (pos m) part h =
    natural_times m (scaled limit (pos m) part)
    (within-natural limit (quotient (pos m *ℤ part) (10 ^ 6)) (natural_quotient (pos m *ℤ part) (10 ^ 6) (natural_times m part h)))
scaled-same limit (negsuc m) part h =
    negative_times m (scaled limit (negsuc m) part)
    (within-opposite limit (quotient (negsuc m *ℤ part) (10 ^ 6)) (opposite_quotient (negsuc m *ℤ part) (10 ^ 6) (omega arith) (negative_natural m part h)))

scaled-turned : (limit : ℕ) (factor part : ℤ) → part ≤ℤ pos 0 → (factor *ℤ scaled limit factor part) ≤ℤ pos 0
scaled-turned limit (pos m) part h =
    natural_opposite m (scaled limit (pos m) part)
    (within-opposite limit (quotient (pos m *ℤ part) (10 ^ 6)) (opposite_quotient (pos m *ℤ part) (10 ^ 6) (omega arith) (natural_opposite m part h)))
scaled-turned limit (negsuc m) part h =
    negative_natural m (scaled limit (negsuc m) part)
    (within-natural limit (quotient (negsuc m *ℤ part) (10 ^ 6)) (natural_quotient (negsuc m *ℤ part) (10 ^ 6) (negative_times m part h)))

-- where the change went with the residual the factor changes its sign
pub factor-turned : (factor : ℤ) (before change : List ℤ) → HasChanged change → pos 0 ≤ℤ product_sum before change
    → (factor *ℤ factor_after factor before change) ≤ℤ pos 0
factor-turned factor before change changed with_it =
    let dot = product_sum before change in
    let s = sum_by square change in
    let best : pos 0 ≤ℤ projection dot s =
    within-natural (10 ^ 12) (quotient (dot *ℤ million) s)
    (natural_quotient (dot *ℤ million) s (subst (λ (z : ℤ). pos 0 ≤ℤ z) (*ℤ_comm million dot) (natural_times (10 ^ 6) dot with_it))) in
    subst (λ (z : ℤ). (factor *ℤ z) ≤ℤ pos 0) (sym (factor-best factor before change changed))
    (scaled-turned (10 ^ 9) factor (best_part before change) (omega (arith, ints, best)))

-- where it went against it the factor keeps its sign
pub factor-kept : (factor : ℤ) (before change : List ℤ) → product_sum before change ≤ℤ pos 0
    → pos 0 ≤ℤ (factor *ℤ factor_after factor before change)
factor-kept factor before change against =
    elim (cases_lt 0 (sum_by square change)) [
      | inl changed ↦
          let best : projection (product_sum before change) (sum_by square change) ≤ℤ pos 0 =
          within-opposite (10 ^ 12) (quotient (product_sum before change *ℤ million) (sum_by square change))
          (opposite_quotient (product_sum before change *ℤ million) (sum_by square change) changed
          (subst (λ (z : ℤ). z ≤ℤ pos 0) (*ℤ_comm million (product_sum before change)) (natural_opposite (10 ^ 6) (product_sum before change) against))) in
          subst (λ (z : ℤ). pos 0 ≤ℤ (factor *ℤ z)) (sym (factor-best factor before change changed))
          (scaled-same (10 ^ 9) factor (best_part before change) (omega (arith, ints, best)))
      | inr none ↦
          subst (λ (z : ℤ). pos 0 ≤ℤ (factor *ℤ z)) (sym (factor-still factor before change (λ changed. omega (arith, changed, none))))
          (let own = square-is factor in omega (arith, ints, own))
    ]
