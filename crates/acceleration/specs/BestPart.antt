-- What Aitken's factor makes least. From the coupling documentation's Aitken relaxation; whole numbers of millionths, and the limit on a part, are the project's own.
use Rattle.std.specs.Prelude.{ℕ, ◌^◌, ◌<◌, List, ℤ, pos, neg_ℤ, ◌+ℤ◌, ◌*ℤ◌, map, sum_by, zip}
use Rattle.fixed_num.specs.Norm.{square, product_sum}
use Rattle.fixed_num.specs.Relaxation.{projection}

-- the residual has changed: the squares of its change have a sum that is not zero
abbrev pub HasChanged : (change : List ℤ) → Type 0
HasChanged change = 0 < sum_by square change

-- the residual that is expected after so many millionths of the last step, in millionths of a unit: as it was before the step, and so many millionths of its change
abbrev pub expected_residual : (before change : List ℤ) (part : ℤ) → List ℤ
expected_residual before change part = map (λ x. pos (10 ^ 6) *ℤ x.0 +ℤ part *ℤ x.1) (zip before change)

-- the sum of its squares
abbrev pub expected_square : (before change : List ℤ) (part : ℤ) → ℕ
expected_square before change part = sum_by square (expected_residual before change part)

-- the part of the last step that Aitken's method takes, in millionths
abbrev pub best_part : (before change : List ℤ) → ℤ
best_part before change = neg_ℤ (projection (product_sum before change) (sum_by square change))
