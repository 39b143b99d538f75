-- How large sums of products are, pair by pair, and that a sum of squares is a natural number.
use Rattle.std.proofs.Common.{◌≡◌, ℕ, ◌+◌, ◌*◌, ◌^◌, ◌≤◌, List, [], ◌∷◌, length, fold, All, ℤ, pos, negsuc, ◌+ℤ◌, ◌*ℤ◌, unsigned_abs, mul-le-mul, sum_by, suc, arith, rules, refl, ap, sym, ◌∙◌}
use Rattle.std.specs.List.{zip}
use Rattle.std.proofs.lemmas.Int.{ints, unsigned_abs-mul}
use Rattle.std.proofs.lemmas.List.Sums.{sum_by-cons}
use Rattle.std.proofs.lemmas.List.Elements.{All-head, All-tail}
use Rattle.fixed_num.specs.Norm.{square, product_sum}

abbrev sum_from : ℤ → List ℤ → List ℤ → ℤ
sum_from start a b = fold (λ (so_far : ℤ) (pair : ℤ × ℤ). so_far +ℤ pair.0 *ℤ pair.1) start (zip a b)

unsigned_abs-add : (a b : ℤ) → unsigned_abs (a +ℤ b) ≤ unsigned_abs a + unsigned_abs b
unsigned_abs-add a b = omega (arith, ints)

-- each product is within p
abbrev Within : (m n p : ℕ) → Type 0
Within m n p = (x y : ℤ) → unsigned_abs x ≤ m → unsigned_abs y ≤ n → unsigned_abs (x *ℤ y) ≤ p

sum_from-le : (m n p : ℕ) (start : ℤ) (a b : List ℤ) → Within m n p → All (λ (x : ℤ). unsigned_abs x ≤ m) a → All (λ (x : ℤ). unsigned_abs x ≤ n) b
    → unsigned_abs (sum_from start a b) ≤ unsigned_abs start + length a * p
sum_from-le m n p start [] b products first second = omega arith
sum_from-le m n p start (x ∷ a) [] products first second = omega arith
sum_from-le m n p start (x ∷ a) (y ∷ b) products first second =
    let product = products x y (All-head (λ (x : ℤ). unsigned_abs x ≤ m) x a first) (All-head (λ (x : ℤ). unsigned_abs x ≤ n) y b second) in
    let rest = sum_from-le m n p (start +ℤ x *ℤ y) a b products (All-tail (λ (x : ℤ). unsigned_abs x ≤ m) x a first) (All-tail (λ (x : ℤ). unsigned_abs x ≤ n) y b second) in
    omega (arith, rest, product, unsigned_abs-add start (x *ℤ y))

products_within : (m n : ℕ) → Within m n (m * n)
products_within m n = λ x y first second. rw (unsigned_abs-mul x y) (mul-le-mul first second)

-- the sum of products of differences with changes of differences
pub dot-le : (a b : List ℤ) → length a ≤ 200000 → All (λ (x : ℤ). unsigned_abs x ≤ 2 * 10 ^ 13) a → All (λ (x : ℤ). unsigned_abs x ≤ 4 * 10 ^ 13) b
    → unsigned_abs (product_sum a b) ≤ 16 * 10 ^ 31
dot-le a b few first second =
    let bound = sum_from-le (2 * 10 ^ 13) (4 * 10 ^ 13) (8 * 10 ^ 26) (pos 0) a b (products_within (2 * 10 ^ 13) (4 * 10 ^ 13)) first second in
    omega (arith, bound, few)

-- the sum of squares of changes
pub square_sum-le : (a : List ℤ) → length a ≤ 200000 → All (λ (x : ℤ). unsigned_abs x ≤ 4 * 10 ^ 13) a → unsigned_abs (product_sum a a) ≤ 32 * 10 ^ 31
square_sum-le a few small =
    let bound = sum_from-le (4 * 10 ^ 13) (4 * 10 ^ 13) (16 * 10 ^ 26) (pos 0) a a (products_within (4 * 10 ^ 13) (4 * 10 ^ 13)) small small in
    omega (arith, bound, few)

sum_from-is : (start : ℤ) (a b : List ℤ) → sum_from start a b ≡ start +ℤ product_sum a b
sum_from-is start [] b = omega (arith, ints)
sum_from-is start (x ∷ a) [] = omega (arith, ints)
sum_from-is start (x ∷ a) (y ∷ b) =
    let whole = sum_from-is (start +ℤ x *ℤ y) a b in
    let first = sum_from-is (pos 0 +ℤ x *ℤ y) a b in
    omega (arith, ints, whole, first)

pub product_sum-cons : (x y : ℤ) (a b : List ℤ) → product_sum (x ∷ a) (y ∷ b) ≡ x *ℤ y +ℤ product_sum a b
product_sum-cons x y a b = let all = sum_from-is (pos 0 +ℤ x *ℤ y) a b in omega (arith, ints, all)

pub square-is : (x : ℤ) → pos (square x) ≡ x *ℤ x
square-is (pos n) = let one : n ^ 2 ≡ n * n = search rules in ap pos one
square-is (negsuc n) = let one : suc n ^ 2 ≡ suc n * suc n = search rules in ap pos one

-- a sum of squares is the sum of products of a list with itself
pub squares-are : (a : List ℤ) → pos (sum_by square a) ≡ product_sum a a
squares-are [] = refl
squares-are (x ∷ a) =
    let all = ap pos (sum_by-cons square x a) in
    let here = square-is x in
    let rest = squares-are a in
    let split = product_sum-cons x x a a in
    omega (arith, ints, all, here, rest, split)

-- a sum of squares is a natural number
pub square_sum-natural : (a : List ℤ) → pos (unsigned_abs (product_sum a a)) ≡ product_sum a a
square_sum-natural a = ap (λ (sum : ℤ). pos (unsigned_abs sum)) (sym (squares-are a)) ∙ squares-are a
