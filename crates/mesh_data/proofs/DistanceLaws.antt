-- The square distance in other words: it is the same both ways, and zero between equal points alone.
use Rattle.std.proofs.Common.{◌≡◌, ℕ, zero, suc, ◌+◌, ◌*◌, ◌^◌, length, ℤ, ◌-ℤ◌, unsigned_abs, List, [], ◌∷◌, refl, ap, arith, rules}
use Rattle.std.specs.List.{zip}
use Rattle.std.proofs.lemmas.Nat.{mul-le}
use Rattle.std.proofs.lemmas.Int.{ints}
use Rattle.std.proofs.lemmas.List.Sums.{sum_by-cons}
use Rattle.fixed_num.specs.Norm.{square_distance, square_of_difference}

turned : (x y : ℤ) → square_of_difference (x, y) ≡ square_of_difference (y, x)
turned x y = let same : unsigned_abs (x -ℤ y) ≡ unsigned_abs (y -ℤ x) = omega (arith, ints) in ap (λ n. n ^ 2) same

no_square : (n : ℕ) → n ^ 2 ≡ 0 → n ≡ 0
no_square zero none = refl
no_square (suc n) none =
    let one : suc n ^ 2 ≡ suc n * suc n = search rules in
    let least = mul-le 1 1 (suc n) (suc n) (omega arith) (omega arith) in
    absurd (omega (arith, none, one, least))

equal : (x y : ℤ) → square_of_difference (x, y) ≡ 0 → x ≡ y
equal x y none = let near : unsigned_abs (x -ℤ y) ≡ 0 = no_square _ none in omega (arith, ints)

nothing : (x : ℤ) → square_of_difference (x, x) ≡ 0
nothing x = let near : unsigned_abs (x -ℤ x) ≡ 0 = omega (arith, ints) in ap (λ n. n ^ 2) near

-- the first pair's square and the rest
split : (x y : ℤ) (a b : List ℤ) → square_distance (x ∷ a) (y ∷ b) ≡ square_of_difference (x, y) + square_distance a b
split x y a b = sum_by-cons square_of_difference (x, y) (zip a b)

pub square_distance-turned : (a b : List ℤ) → square_distance a b ≡ square_distance b a
square_distance-turned [] [] = refl
square_distance-turned [] (y ∷ b) = refl
square_distance-turned (x ∷ a) [] = refl
square_distance-turned (x ∷ a) (y ∷ b) = omega (arith, split x y a b, split y x b a, turned x y, square_distance-turned a b)

pub square_distance-itself : (a : List ℤ) → square_distance a a ≡ 0
square_distance-itself [] = refl
square_distance-itself (x ∷ a) = omega (arith, split x x a a, nothing x, square_distance-itself a)

pub square_distance-apart : (a b : List ℤ) → length a ≡ length b → square_distance a b ≡ 0 → a ≡ b
square_distance-apart [] [] alike none = refl
square_distance-apart [] (y ∷ b) alike none = absurd (omega arith)
square_distance-apart (x ∷ a) [] alike none = absurd (omega arith)
square_distance-apart (x ∷ a) (y ∷ b) alike none =
    let first : square_of_difference (x, y) ≡ 0 = omega (arith, split x y a b, none) in
    let others : square_distance a b ≡ 0 = omega (arith, split x y a b, none) in
    let here = equal x y first in
    let rest = square_distance-apart a b (omega arith) others in
    cc
