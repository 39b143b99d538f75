-- The root that computes is the root: twice the root of a quarter, or one more.
use Rattle.std.proofs.Common.{◌≡◌, ℕ, zero, suc, ◌+◌, ◌*◌, ◌/◌, ◌<◌, ◌≤◌, inl, inr, Bool, true, false, nat_le, if◌then◌else◌, List, ℤ, sum_by, refl, arith, le_antisymm, mul-le-mul}
use Rattle.std.proofs.lemmas.Bool.{leb-true, leb-false, cases_lt}
use Rattle.fixed_num.specs.Norm.{IsRoot, IsNorm, square}
use Rattle.wave_coupling.specs.Root.{or_one_more, root_within, root, norm}

-- r is the root of n, by the square after it
record IsRootBy (n r : ℕ) : Type 0 where
  within : r * r ≤ n
  next : n < (r + 1) * (r + 1)

one_more : (n q r : ℕ) → 4 * q ≤ n → n < 4 * q + 4 → IsRootBy q r → IsRootBy n (or_one_more n (2 * r))
one_more n q r low high is = by (nat_le ((2 * r + 1) * (2 * r + 1)) n) refl
  where
    by : (b : Bool) → nat_le ((2 * r + 1) * (2 * r + 1)) n ≡ b → IsRootBy n (if b then 2 * r + 1 else 2 * r)
    by true e =
        let fits = leb-true ((2 * r + 1) * (2 * r + 1)) n e in
        let further : (2 * r + 1 + 1) * (2 * r + 1 + 1) ≡ 4 * ((r + 1) * (r + 1)) = omega arith in
        record { within = fits; next = omega (arith, high, is.next, further) }
    by false e =
        let past = leb-false ((2 * r + 1) * (2 * r + 1)) n e in
        let twice : 2 * r * (2 * r) ≡ 4 * (r * r) = omega arith in
        record { within = omega (arith, low, is.within, twice); next = omega (arith, past) }

quarter : (n : ℕ) → (4 * (n / 4) ≤ n) × (n < 4 * (n / 4) + 4)
quarter n = (omega arith, omega arith)

root_by : (times n : ℕ) → n ≤ times → IsRootBy n (root_within times n)
unfolding root_within
root_by times zero few = record { within = omega arith; next = omega arith }
root_by zero (suc n) few = absurd (omega (arith, few))
root_by (suc times) (suc n) few =
    let parts = quarter (suc n) in
    let less : suc n / 4 ≤ times = omega (arith, parts.0, few) in
    one_more (suc n) (suc n / 4) (root_within times (suc n / 4)) parts.0 parts.1 (root_by times (suc n / 4) less)

pub root_is : (n : ℕ) → IsRoot n (root n)
root_is n =
    let is = root_by n n (omega arith) in
    record {
      within = is.within;
      greatest = λ m small. elim (cases_lt (root n) m) [
        | inl more ↦ let large : (root n + 1) * (root n + 1) ≤ m * m = mul-le-mul (omega (arith, more)) (omega (arith, more)) in absurd (omega (arith, large, small, is.next))
        | inr less ↦ less
      ];
    }

-- there is one root alone
pub one_root : (n r s : ℕ) → IsRoot n r → IsRoot n s → r ≡ s
one_root n r s one other = le_antisymm (other.greatest r one.within) (one.greatest s other.within)

pub norm_is : (list : List ℤ) → IsNorm list (norm list)
norm_is list = root_is (sum_by square list)
