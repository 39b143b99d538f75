-- Quotients of naturals, rounded down, and places in rows.
use Rattle.std.proofs.Common.{◌≡◌, ℕ, zero, suc, ◌+◌, ◌-◌, ◌*◌, ◌/◌, ◌%◌, ◌^◌, ◌<◌, ◌≤◌, inl, inr, arith, mul-le-mul_right, mul-le-mul_left, mul-le-mul, pow-suc}
use native.Mathlib.Nat.{pow-zero}
use Rattle.std.proofs.lemmas.Bool.{cases_lt}
use Rattle.std.proofs.lemmas.Nat.{div-add-mod', div_below, le-div}

-- a greater number has no smaller quotient
pub div-le : (a b w : ℕ) → 0 < w → a ≤ b → a / w ≤ b / w
div-le a b w some less = le-div (a / w) b w some (omega (arith, div-add-mod' a w))

-- one more width makes the quotient at most one greater
pub div-step : (a b w : ℕ) → 0 < w → a ≤ b + w → a / w ≤ b / w + 1
div-step a b w some less =
    let below : a < (b / w + 2) * w = omega (arith, div-add-mod' b w) in
    omega (arith, div_below a w (b / w + 2) some below)

-- less than a width is no quotient
pub div-none : (a w : ℕ) → a < w → a / w ≡ 0
div-none a w less = omega (arith, div_below a w 1 (omega arith) (omega arith))

-- the whole part of a share: it and one more make more than the whole
pub share : (whole parts : ℕ) → 0 < parts → whole < parts * (whole / parts + 1)
share whole parts some = omega (arith, div-add-mod' whole parts)

-- a row of one place
pub row_none : (m c : ℕ) → m * c ^ zero ≡ m
row_none m c = rw pow-zero (omega arith)

pub power_some : (c k : ℕ) → 0 < c → 0 < c ^ k
power_some c zero some = rw pow-zero (omega arith)
power_some c (suc k) some = let more = mul-le-mul {n₁ = 1} {m₁ = 1} (power_some c k some) some in omega (arith, pow-suc c k, more)

-- a row of rows
pub row_power : (m c k : ℕ) → m * c ^ suc k ≡ (m * c) * c ^ k
row_power m c k = rw pow-suc (omega arith)

-- a number is in one row alone
pub same_row : (m n w p : ℕ) → m * w ≤ p → p < (m + 1) * w → n * w ≤ p → p < (n + 1) * w → m ≡ n
same_row m n w p m_low m_high n_low n_high =
    elim (cases_lt m n) [
      | inl less ↦ let past : (m + 1) * w ≤ n * w = mul-le-mul_right w (omega arith) in absurd (omega arith)
      | inr more ↦ elim (cases_lt n m) [
        | inl less ↦ let past : (n + 1) * w ≤ m * w = mul-le-mul_right w (omega arith) in absurd (omega arith)
        | inr same ↦ omega arith
      ]
    ]

-- a place in a row of rows is within all
pub place_within : (front c n last k all : ℕ) → n < last → 0 < c → (front * c + last) * c ^ k ≤ all → front * c + n < all
place_within front c n last k all below some within =
    let row : (front * c + last) * 1 ≤ (front * c + last) * c ^ k = mul-le-mul_left (front * c + last) (power_some c k some) in omega (arith, row)
