-- Roots, norms and sums of products of whole numbers. The project's own: the coupling documentation has floating point.
use Rattle.std.specs.Prelude.{ℕ, ◌*◌, ◌^◌, ◌≤◌, ℤ, pos, ◌+ℤ◌, ◌-ℤ◌, ◌*ℤ◌, unsigned_abs, List, sum_by, fold, zip}

-- r is the greatest number whose square is at most n
pub record IsRoot (n r : ℕ) : Type 0 where
  pub within : r * r ≤ n
  pub greatest : (m : ℕ) → m * m ≤ n → m ≤ r

-- the square of a number
abbrev pub square : ℤ → ℕ
square x = unsigned_abs x ^ 2

-- the square of the difference of two numbers
abbrev pub square_of_difference : ℤ × ℤ → ℕ
square_of_difference pair = square (pair.0 -ℤ pair.1)

-- the sum of the squares of the differences, pair by pair: the square of the distance between two points
abbrev pub square_distance : List ℤ → List ℤ → ℕ
square_distance a b = sum_by square_of_difference (zip a b)

-- r is the norm: the greatest number whose square is at most the sum of the squares
abbrev pub IsNorm : List ℤ → ℕ → Type 0
IsNorm list r = IsRoot (sum_by square list) r

-- the sum of the products, pair by pair
abbrev pub product_sum : List ℤ → List ℤ → ℤ
product_sum a b = fold (λ (so_far : ℤ) (pair : ℤ × ℤ). so_far +ℤ pair.0 *ℤ pair.1) (pos 0) (zip a b)
