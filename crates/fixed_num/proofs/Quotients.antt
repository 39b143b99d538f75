-- What the rounded quotient is: it meets its relation, only it does, and how large it can be.
use Rattle.std.proofs.Common.{◌≡◌, ℕ, zero, suc, ◌+◌, ◌-◌, ◌*◌, ◌/◌, ◌%◌, ◌^◌, ◌<◌, ◌≤◌, ℤ, pos, negsuc, neg_ℤ, ◌+ℤ◌, ◌-ℤ◌, ◌*ℤ◌, unsigned_abs, nat_lt, cond, inl, inr, ◌⊎◌, true, false, arith, add-one, refl, sym, ap, ◌∙◌}
use Rattle.std.proofs.Math.Nat.{zero-mul, one-mul, add-mul, div-add-mod', mul-le-mul_right}
use lib.IntN.{suc_ℤ, suc_ℤ-*ℤ, +ℤ_idr}
use lib.Signed.{lt_z}
use mir.Syntax.{w128}
use mir.Val.{SFits, hbits}
use Rattle.std.proofs.lemmas.Int.{ints}
use Rattle.std.proofs.lemmas.Bool.{cases_lt, cases_eq, lt-ltb, le-ltb}
use Rattle.fixed_num.specs.Numbers.{nearest_of, quotient, IsRoundedQuotient, distance}

-- how far apart two naturals are
abbrev pub gap : ℕ → ℕ → ℕ
gap x y = (x - y) + (y - x)

unsigned_abs-sub : (x y : ℕ) → unsigned_abs (pos x -ℤ pos y) ≡ gap x y
unsigned_abs-sub x y = omega (arith, ints)

unsigned_abs-neg_sub : (x y : ℕ) → unsigned_abs (neg_ℤ (pos x) -ℤ neg_ℤ (pos y)) ≡ gap x y
unsigned_abs-neg_sub x y = omega (arith, ints)

pub unsigned_abs-neg : (x : ℕ) → unsigned_abs (neg_ℤ (pos x)) ≡ x
unsigned_abs-neg zero = refl
unsigned_abs-neg (suc x) = refl

neg_product : (n b : ℕ) → neg_ℤ (pos n) *ℤ pos b ≡ neg_ℤ (pos (n * b))
neg_product zero b = rw (zero-mul b)
neg_product (suc n) b = refl

distance-pos : (a n b : ℕ) → distance (pos a) b (pos n) ≡ gap a (n * b)
distance-pos a n b = unsigned_abs-sub a (n * b)

distance-neg : (a n b : ℕ) → distance (negsuc a) b (neg_ℤ (pos n)) ≡ gap (suc a) (n * b)
distance-neg a n b = rw (neg_product n b) (unsigned_abs-neg_sub (suc a) (n * b))

-- the rounded quotient of naturals, as its relation says it
pub record IsNearest (a b n : ℕ) : Type 0 where
  pub near : 2 * gap a (n * b) ≤ b
  pub even_midway : 2 * gap a (n * b) ≡ b → n % 2 ≡ 0

below_middle : (whole rest b : ℕ) → 2 * rest < b → IsNearest (whole * b + rest) b whole
below_middle whole rest b h = record { near = omega arith; even_midway = λ e. absurd (omega arith) }

above_middle : (whole rest b : ℕ) → rest < b → b < 2 * rest → IsNearest (whole * b + rest) b (whole + 1)
above_middle whole rest b h g =
    record {
      near = omega (arith, add-mul whole 1 b);
      even_midway = λ e. absurd (omega (arith, add-mul whole 1 b));
    }

at_middle : (whole rest b : ℕ) → 2 * rest ≡ b → IsNearest (whole * b + rest) b (whole + whole % 2)
at_middle whole rest b h =
    let parity : (whole % 2 ≡ 0) ⊎ (whole % 2 ≡ 1) = elim (cases_eq (whole % 2) 0) [ inl e ↦ inl e | inr n ↦ inr (omega arith) ] in
    elim parity [
      | inl e ↦ rw e (record { near = omega (arith, add-mul whole 0 b); even_midway = λ _. omega arith })
      | inr e ↦ rw e (record { near = omega (arith, add-mul whole 1 b); even_midway = λ _. omega arith })
    ]

nearest_by_parts : (whole rest b : ℕ) → rest < b
    → IsNearest (whole * b + rest) b (cond (nat_lt (2 * rest) b) whole (cond (nat_lt b (2 * rest)) (whole + 1) (whole + whole % 2)))
nearest_by_parts whole rest b h =
    elim (cases_lt (2 * rest) b) [
      | inl low ↦ rw (lt-ltb (2 * rest) b low) (below_middle whole rest b low)
      | inr more ↦ rw (le-ltb (2 * rest) b more) (elim (cases_lt b (2 * rest)) [
        | inl high ↦ rw (lt-ltb b (2 * rest) high) (above_middle whole rest b h high)
        | inr less ↦ rw (le-ltb b (2 * rest) less) (at_middle whole rest b (omega arith))
      ])
    ]

nearest_of-IsNearest : (a b : ℕ) → 0 < b → IsNearest a b (nearest_of a b)
unfolding nearest_of
nearest_of-IsNearest a b h = rw (div-add-mod' a b) at (nearest_by_parts (a / b) (a % b) b (omega arith))

-- the rounded quotient meets its relation
pub quotient-IsRoundedQuotient : (a : ℤ) (b : ℕ) → 0 < b → IsRoundedQuotient a b (quotient a b)
unfolding quotient
quotient-IsRoundedQuotient (pos a) b h =
    let r = nearest_of-IsNearest a b h in
    let d = distance-pos a (nearest_of a b) b in
    record { near = rw d r.near; even_midway = λ e. r.even_midway (rw d at e) }
quotient-IsRoundedQuotient (negsuc a) b h =
    let r = nearest_of-IsNearest (suc a) b h in
    let n = nearest_of (suc a) b in
    let d = distance-neg a n b in
    record { near = rw d r.near; even_midway = λ e. rw (unsigned_abs-neg n) (r.even_midway (rw d at e)) }

suc_le : (m n : ℕ) → m < n → m + 1 ≤ n
suc_le m n h = omega arith

-- a quotient is no larger than m where the dividend is no larger than m times the divisor
nearest_of-le : (a b m : ℕ) → 0 < b → a ≤ m * b → nearest_of a b ≤ m
nearest_of-le a b m h bound =
    let r = nearest_of-IsNearest a b h in
    let n = nearest_of a b in
    elim (cases_lt m n) [
      | inl over ↦ absurd (omega (arith, r.near, add-mul m 1 b, mul-le-mul_right b (suc_le m n over)))
      | inr within ↦ within
    ]

pub quotient-le : (a : ℤ) (b m : ℕ) → 0 < b → unsigned_abs a ≤ m * b → unsigned_abs (quotient a b) ≤ m
unfolding quotient
quotient-le (pos a) b m h bound = nearest_of-le a b m h bound
quotient-le (negsuc a) b m h bound = rw (unsigned_abs-neg (nearest_of (suc a) b)) (nearest_of-le (suc a) b m h bound)

-- the quotient from that of magnitudes, as a test of the sign tells it
pub quotient_of_negative : (a : ℤ) (b m : ℕ) → lt_z a (pos 0) ≡ true → m ≡ nearest_of (unsigned_abs a) b → neg_ℤ (pos m) ≡ quotient a b
unfolding quotient
quotient_of_negative (pos a) b m below e = absurd (grind (arith, ints))
quotient_of_negative (negsuc a) b m below e = ap (λ n. neg_ℤ (pos n)) e

pub quotient_of_natural : (a : ℤ) (b m : ℕ) → lt_z a (pos 0) ≡ false → m ≡ nearest_of (unsigned_abs a) b → pos m ≡ quotient a b
unfolding quotient
quotient_of_natural (pos a) b m above e = ap pos e
quotient_of_natural (negsuc a) b m above e = absurd (grind (arith, ints))

-- a magnitude that no natural i128 has is that of a negative one
pub natural_fits : (a : ℤ) (m : ℕ) → lt_z a (pos 0) ≡ false → SFits w128 a → m ≤ unsigned_abs a → m < 2 ^ hbits w128
natural_fits (pos a) m above fits bound = omega (arith, fits.sfits)
natural_fits (negsuc a) m above fits bound = absurd (grind (arith, ints))

negsuc-up : (n : ℕ) → negsuc (suc n) +ℤ pos 1 ≡ negsuc n
negsuc-up n = omega (arith, ints)

-- one more time a number
suc-times : (k b : ℕ) → suc k * b ≡ k * b + b
suc-times k b = ap (λ n. n * b) (sym (add-one k)) ∙ add-mul k 1 b ∙ ap (λ n. k * b + n) (one-mul b)

-- k times the divisor further on
suc_ℤ-is : (m : ℤ) → m +ℤ pos 1 ≡ suc_ℤ m
suc_ℤ-is (pos n) = rw add-one refl
suc_ℤ-is (negsuc zero) = refl
suc_ℤ-is (negsuc (suc n)) = negsuc-up n

add-step : (m : ℤ) (k : ℕ) → m +ℤ pos (suc k) ≡ (m +ℤ pos k) +ℤ pos 1
add-step m k = omega (arith, ints)

product-add : (m : ℤ) (k b : ℕ) → (m +ℤ pos k) *ℤ pos b ≡ m *ℤ pos b +ℤ pos (k * b)
product-add m zero b = rw (zero-mul b) (ap (λ (x : ℤ). x *ℤ pos b) (+ℤ_idr m) ∙ sym (+ℤ_idr (m *ℤ pos b)))
product-add m (suc k) b =
    let product = suc-times k b in
    let sums : (m *ℤ pos b +ℤ pos (k * b)) +ℤ pos b ≡ m *ℤ pos b +ℤ pos (k * b + b) = omega (arith, ints) in
    ap (λ (x : ℤ). x *ℤ pos b) (add-step m k ∙ suc_ℤ-is (m +ℤ pos k)) ∙ suc_ℤ-*ℤ (m +ℤ pos k) (pos b) ∙ ap (λ (x : ℤ). x +ℤ pos b) (product-add m k b) ∙ sums ∙ ap (λ x. m *ℤ pos b +ℤ pos x) (sym product)

-- q apart, so q at most in distances
triangle : (a p : ℤ) (q : ℕ) → q ≤ unsigned_abs (a -ℤ p) + unsigned_abs (a -ℤ (p +ℤ pos q))
triangle a p q = omega (arith, ints)

parity : (m : ℤ) → unsigned_abs m % 2 ≡ 0 → unsigned_abs (m +ℤ pos 1) % 2 ≡ 0 → ⊥
parity (pos n) even next = absurd (omega arith)
parity (negsuc n) even next = (let is : unsigned_abs (negsuc n +ℤ pos 1) ≡ n = omega (arith, ints) in absurd (let e : n % 2 ≡ 0 = rw is at next in omega arith))

distances : (a m : ℤ) (b k : ℕ) → suc k * b ≤ distance a b m + distance a b (m +ℤ pos (suc k))
distances a m b k = rw (product-add m (suc k) b) (triangle a (m *ℤ pos b) (suc k * b))

-- a number further on than a rounded quotient is none
apart : (a m : ℤ) (b k : ℕ) → 0 < b → IsRoundedQuotient a b m → IsRoundedQuotient a b (m +ℤ pos (suc k)) → ⊥
apart a m b zero h r s =
    let one : 1 * b ≡ b = one-mul b in
    let far : b ≤ distance a b m + distance a b (m +ℤ pos 1) = rw one at (distances a m b 0) in
    parity m (r.even_midway (omega (arith, r.near, s.near, far))) (s.even_midway (omega (arith, r.near, s.near, far)))
apart a m b (suc k) h r s =
    let product = suc-times (suc k) b ∙ ap (λ n. n + b) (suc-times k b) in
    let far : k * b + b + b ≤ distance a b m + distance a b (m +ℤ pos (suc (suc k))) = rw product at (distances a m b (suc k)) in
    omega (arith, r.near, s.near, far)

-- no other number is one
pub only_quotient : (a m n : ℤ) (b : ℕ) → 0 < b → IsRoundedQuotient a b m → IsRoundedQuotient a b n → n ≡ m
only_quotient a m n b h r s =
    let by_difference : (d : ℤ) → n -ℤ m ≡ d → n ≡ m = λ d. elim d as (λ d. n -ℤ m ≡ d → n ≡ m) [
      | pos k ↦ elim k as (λ k. n -ℤ m ≡ pos k → n ≡ m) [
        | zero ↦ λ e. omega (arith, ints)
        | suc k ↦ λ e. absurd (let at : n ≡ m +ℤ pos (suc k) = omega (arith, ints) in apart a m b k h r (rw at at s))
      ]
      | negsuc k ↦ λ e. absurd (let at : m ≡ n +ℤ pos (suc k) = omega (arith, ints) in apart a n b k h s (rw at at r))
    ] in
    by_difference (n -ℤ m) refl
