-- A square distance along an edge falls and then rises: a weight whose neighbours are farther is nearest.
use Rattle.std.proofs.Common.{◌≡◌, ℕ, zero, suc, ◌+◌, ◌-◌, ◌*◌, ◌^◌, ◌<◌, ◌≤◌, inl, inr, ℤ, pos, ◌+ℤ◌, ◌-ℤ◌, ◌*ℤ◌, unsigned_abs, List, [], ◌∷◌, length, sum_by, refl, ap, ◌∙◌, arith, rules}
use Rattle.std.specs.List.{range_with_len}
use Rattle.std.proofs.Math.Nat.{add-mul, mul_comm}
use Rattle.std.proofs.Math.IntN.{suc_ℤ-*ℤ, zero-*ℤ}
use Rattle.std.proofs.lemmas.Bool.{cases_lt}
use Rattle.std.proofs.lemmas.Int.{ints}
use Rattle.std.proofs.lemmas.Nat.{mul-le}
use Rattle.std.proofs.lemmas.List.Sums.{sum_by-cons}
use Rattle.fixed_num.specs.Norm.{square}
use Rattle.fixed_num.proofs.SignedProducts.{sum_times}
use Rattle.edge_projection.specs.Offsets.{offset, coordinate, square_off}
use Rattle.edge_projection.specs.NearestFoot.{IsLeastWeight}

-- twice what is between two is at most their sum
abbrev pub IsConvex : (ℕ → ℕ) → Type 0
IsConvex f = (i j k : ℕ) → j ≡ i + 1 → k ≡ j + 1 → 2 * f j ≤ f i + f k

-- ---- squares

square-is : (n : ℕ) → n ^ 2 ≡ n * n
square-is n = search rules

mul-add : (n a b : ℕ) → n * (a + b) ≡ n * a + n * b
mul-add n a b = mul_comm n (a + b) ∙ add-mul a b n ∙ ap (λ (x : ℕ). x + b * n) (mul_comm a n) ∙ ap (λ (x : ℕ). n * a + x) (mul_comm b n)

-- of two naturals, the second no less: by their difference
by_difference : (s u d : ℕ) → 2 * s ≤ u + (u + d) → 2 * (s * s) ≤ u * u + (u + d) * (u + d)
by_difference s u d low =
    let whole = mul-le (s + s) (s + s) (u + (u + d)) (u + (u + d)) (omega arith) (omega arith) in
    let left = add-mul s s (s + s) in
    let left_part = mul-add s s s in
    let right = add-mul u (u + d) (u + (u + d)) in
    let first = mul-add u u (u + d) in
    let second = mul-add (u + d) u (u + d) in
    let mixed = mul-add u u d in
    let turned = mul_comm (u + d) u in
    let square = add-mul u d (u + d) in
    let last = mul-add d u d in
    let swapped = mul_comm d u in
    omega (arith, whole, left, left_part, right, first, second, mixed, turned, square, last, swapped)

halfway : (s t u : ℕ) → 2 * s ≤ t + u → 2 * (s * s) ≤ t * t + u * u
halfway s t u low =
    elim (cases_lt t u) [
      | inl less ↦
          let gap : u ≡ t + (u - t) = omega arith in
          let squares = ap (λ (x : ℕ). x * x) gap in
          omega (arith, squares, by_difference s t (u - t) (omega arith))
      | inr more ↦
          let gap : t ≡ u + (t - u) = omega arith in
          let squares = ap (λ (x : ℕ). x * x) gap in
          omega (arith, squares, by_difference s u (t - u) (omega arith))
    ]

-- ---- one coordinate

one_time : (w : ℤ) → pos 1 *ℤ w ≡ w
one_time w = let once = suc_ℤ-*ℤ (pos 0) w in let none = zero-*ℤ w in omega (arith, ints, once, none)

-- one weight further on
offset-next : (i j : ℕ) (p a b : ℤ) → j ≡ i + 1 → offset j p a b ≡ offset i p a b -ℤ (b -ℤ a)
offset-next i j p a b next =
    let whole : pos j ≡ pos i +ℤ pos 1 = omega (arith, ints) in
    let product = ap (λ (m : ℤ). m *ℤ (b -ℤ a)) whole ∙ sum_times (pos i) (pos 1) (b -ℤ a) in
    let once = one_time (b -ℤ a) in
    omega (arith, ints, product, once)

middle : (x y z w : ℤ) → y ≡ x -ℤ w → z ≡ y -ℤ w → 2 * unsigned_abs y ≤ unsigned_abs x + unsigned_abs z
middle x y z w first last = omega (arith, ints)

pub offset-IsConvex : (p a b : ℤ) → IsConvex (λ m. square (offset m p a b))
offset-IsConvex p a b i j k first last =
    let sizes = middle (offset i p a b) (offset j p a b) (offset k p a b) (b -ℤ a) (offset-next i j p a b first) (offset-next j k p a b last) in
    let at_i = square-is (unsigned_abs (offset i p a b)) in
    let at_j = square-is (unsigned_abs (offset j p a b)) in
    let at_k = square-is (unsigned_abs (offset k p a b)) in
    omega (arith, at_i, at_j, at_k, halfway (unsigned_abs (offset j p a b)) (unsigned_abs (offset i p a b)) (unsigned_abs (offset k p a b)) sizes)

-- ---- all coordinates

sum_by-IsConvex : (f : ℕ → ℕ → ℕ) (xs : List ℕ) → ((x : ℕ) → IsConvex (f x)) → IsConvex (λ m. sum_by (λ x. f x m) xs)
sum_by-IsConvex f [] each i j k first last = omega arith
sum_by-IsConvex f (x ∷ xs) each i j k first last =
    omega (arith, sum_by-cons (λ x. f x i) x xs, sum_by-cons (λ x. f x j) x xs, sum_by-cons (λ x. f x k) x xs, each x i j k first last, sum_by-IsConvex f xs each i j k first last)

pub square_off-IsConvex : (p a b : List ℤ) → IsConvex (λ m. square_off m p a b)
unfolding square_off
square_off-IsConvex p a b =
    sum_by-IsConvex (λ x m. square (offset m (coordinate p x) (coordinate a x) (coordinate b x))) (range_with_len 0 (length p))
    (λ x. offset-IsConvex (coordinate p x) (coordinate a x) (coordinate b x))

-- ---- the least

-- from a weight on that is no farther than the next
rising : (f : ℕ → ℕ) → IsConvex f → (m k i j : ℕ) → f m ≤ f (m + 1) → i ≡ m + k → j ≡ i + 1 → (f m ≤ f i) × (f i ≤ f j)
rising f convex m zero i j up at next =
    let here : f i ≡ f m = ap f (omega arith) in
    let there : f j ≡ f (m + 1) = ap f (omega arith) in
    (omega (arith, here), omega (arith, here, there, up))
rising f convex m (suc k) i j up at next =
    let before = rising f convex m k (m + k) i up refl (omega arith) in
    let between = convex (m + k) i j (omega arith) next in
    (omega (arith, before.0, before.1), omega (arith, before.1, between))

-- up to a weight that is nearer than the one before it
falling : (f : ℕ → ℕ) → IsConvex f → (m k i j : ℕ) → f (m + 1) < f m → j + k ≡ m + 1 → j ≡ i + 1 → (f (m + 1) < f i) × (f j < f i)
falling f convex m zero i j down at next =
    let here : f i ≡ f m = ap f (omega arith) in
    let there : f j ≡ f (m + 1) = ap f (omega arith) in
    (omega (arith, here, there, down), omega (arith, here, there, down))
falling f convex m (suc k) i j down at next =
    let after = falling f convex m k j (j + 1) down (omega arith) refl in
    let between = convex i j (j + 1) next refl in
    (omega (arith, after.0, after.1, between), omega (arith, after.1, between))

-- a weight from which the next one is no nearer, and the one before is farther
pub least_weight : (p a b : List ℤ) (m : ℕ) → m ≤ 10 ^ 6
    → (m < 10 ^ 6 → square_off m p a b ≤ square_off (m + 1) p a b)
    → (0 < m → square_off m p a b < square_off (m - 1) p a b)
    → IsLeastWeight p a b m
least_weight p a b m weight up down =
    let convex = square_off-IsConvex p a b in
    let before : (j : ℕ) → j < m → square_off m p a b < square_off j p a b = λ j less.
    let whole : m - 1 + 1 ≡ m = omega arith in
    let same = ap (λ (m : ℕ). square_off m p a b) whole in
    let step = down (omega arith) in
    let far = falling (λ m. square_off m p a b) convex (m - 1) (m - (j + 1)) j (j + 1) (omega (arith, same, step)) (omega arith) refl in
    omega (arith, far.0, same) in
    record {
      weight = weight;
      least = λ j within. elim (cases_lt j m) [
        | inl less ↦ omega (arith, before j less)
        | inr more ↦ elim (cases_lt m j) [
          | inl less ↦
              let far = rising (λ m. square_off m p a b) convex m (j - m) j (j + 1) (up (omega arith)) (omega arith) refl in
              far.0
          | inr same ↦ let at : j ≡ m = omega arith in rw at (omega arith)
        ]
      ];
      first = before;
    }
