-- The norm as a function: the greatest number whose square is at most a sum of squares. The project's own, where it is a relation elsewhere: this one computes.
use Rattle.std.specs.Prelude.{ℕ, zero, suc, ◌+◌, ◌*◌, ◌/◌, nat_le, if◌then◌else◌, List, sum_by, ℤ}
use Rattle.fixed_num.specs.Norm.{square}

-- one more where its square is at most n
abbrev pub or_one_more : (n r : ℕ) → ℕ
or_one_more n r = if nat_le ((r + 1) * (r + 1)) n then r + 1 else r

-- the root of n: twice the root of a quarter of it, or one more; n is quartered until nothing is left, no more often than so many times
unfoldable pub root_within : (times n : ℕ) → ℕ
root_within times zero = 0
root_within zero (suc n) = 0
root_within (suc times) (suc n) = or_one_more (suc n) (2 * root_within times (suc n / 4))

abbrev pub root : ℕ → ℕ
root n = root_within n n

-- the norm of a list
abbrev pub norm : List ℤ → ℕ
norm list = root (sum_by square list)
