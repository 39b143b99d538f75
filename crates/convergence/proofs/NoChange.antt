-- Where nothing changes, the norm of the change is zero.
use Rattle.std.proofs.Common.{◌≡◌, ℕ, zero, suc, ◌*◌, ◌^◌, ◌≤◌, ℤ, ◌-ℤ◌, unsigned_abs, List, [], ◌∷◌, sum_by, refl, ap, arith}
use Rattle.std.proofs.lemmas.Nat.{mul-le}
use Rattle.std.proofs.lemmas.Int.{ints}
use Rattle.std.proofs.lemmas.List.Sums.{sum_by-cons}
use Rattle.fixed_num.specs.Norm.{IsRoot, square}
use Rattle.convergence.specs.Change.{change_of}

nothing : (x : ℤ) → square (x -ℤ x) ≡ 0
nothing x = let near : unsigned_abs (x -ℤ x) ≡ 0 = omega (arith, ints) in ap (λ n. n ^ 2) near

squares : (values : List ℤ) → sum_by square (change_of values values) ≡ 0
squares [] = refl
squares (x ∷ xs) = omega (arith, sum_by-cons square (x -ℤ x) (change_of xs xs), nothing x, squares xs)

least : (m : ℕ) → m * m ≤ 0 → m ≤ 0
least zero within = omega arith
least (suc m) within = absurd (omega (arith, within, mul-le 1 1 (suc m) (suc m) (omega arith) (omega arith)))

root_of_zero : IsRoot 0 0
root_of_zero = record { within = omega arith; greatest = least }

pub norm_of_no_change : (values : List ℤ) → IsRoot (sum_by square (change_of values values)) 0
norm_of_no_change values = rw (squares values) root_of_zero
