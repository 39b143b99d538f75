-- Products of signed numbers: sums, other orders, squares.
use Rattle.std.proofs.Common.{◌≡◌, ℕ, zero, suc, ◌*◌, ◌^◌, ◌≤◌, ℤ, pos, negsuc, neg_ℤ, ◌+ℤ◌, ◌-ℤ◌, ◌*ℤ◌, ◌≤ℤ◌, unsigned_abs, arith, refl, sym, ap, ◌∙◌, rules}
use Rattle.std.proofs.Math.IntN.{suc_ℤ, pred_ℤ, suc_ℤ-*ℤ, pred_ℤ-*ℤ, *ℤ_comm, zero-*ℤ, +ℤ_idl}
use Rattle.std.proofs.lemmas.Int.{ints}

suc_ℤ-is : (m : ℤ) → m +ℤ pos 1 ≡ suc_ℤ m
suc_ℤ-is (pos n) = omega (arith, ints)
suc_ℤ-is (negsuc zero) = refl
suc_ℤ-is (negsuc (suc n)) = omega (arith, ints)

pred_ℤ-is : (m : ℤ) → m -ℤ pos 1 ≡ pred_ℤ m
pred_ℤ-is (pos zero) = refl
pred_ℤ-is (pos (suc n)) = omega (arith, ints)
pred_ℤ-is (negsuc n) = omega (arith, ints)

-- one more, and one less, of a factor
more : (m k : ℤ) → (m +ℤ pos 1) *ℤ k ≡ m *ℤ k +ℤ k
more m k = ap (λ (z : ℤ). z *ℤ k) (suc_ℤ-is m) ∙ suc_ℤ-*ℤ m k

less_by_one : (m k : ℤ) → (m -ℤ pos 1) *ℤ k ≡ m *ℤ k -ℤ k
less_by_one m k = ap (λ (z : ℤ). z *ℤ k) (pred_ℤ-is m) ∙ pred_ℤ-*ℤ m k

up : (n : ℕ) (y : ℤ) → pos (suc n) +ℤ y ≡ (pos n +ℤ y) +ℤ pos 1
up n y = omega (arith, ints)

down_first : (y : ℤ) → negsuc zero +ℤ y ≡ y -ℤ pos 1
down_first y = omega (arith, ints)

down : (n : ℕ) (y : ℤ) → negsuc (suc n) +ℤ y ≡ (negsuc n +ℤ y) -ℤ pos 1
down n y = omega (arith, ints)

one_up : (n : ℕ) → pos (suc n) ≡ pos n +ℤ pos 1
one_up n = omega (arith, ints)

one_down : (n : ℕ) → negsuc (suc n) ≡ negsuc n -ℤ pos 1
one_down n = omega (arith, ints)

-- a sum times a number
pub sum_times : (x y k : ℤ) → (x +ℤ y) *ℤ k ≡ x *ℤ k +ℤ y *ℤ k
sum_times (pos zero) y k = ap (λ (z : ℤ). z *ℤ k) (+ℤ_idl y) ∙ sym (+ℤ_idl (y *ℤ k)) ∙ ap (λ (z : ℤ). z +ℤ y *ℤ k) (sym (zero-*ℤ k))
sum_times (pos (suc n)) y k =
    let whole = ap (λ (z : ℤ). z *ℤ k) (up n y) ∙ more (pos n +ℤ y) k in
    let first = ap (λ (z : ℤ). z *ℤ k) (one_up n) ∙ more (pos n) k in
    let rest = sum_times (pos n) y k in
    omega (arith, ints, whole, first, rest)
sum_times (negsuc zero) y k =
    let whole = ap (λ (z : ℤ). z *ℤ k) (down_first y) ∙ less_by_one y k in
    let first : negsuc zero *ℤ k ≡ pos 0 *ℤ k -ℤ k = pred_ℤ-*ℤ (pos zero) k in
    let none : pos 0 *ℤ k ≡ pos 0 = zero-*ℤ k in
    omega (arith, ints, whole, first, none)
sum_times (negsuc (suc n)) y k =
    let whole = ap (λ (z : ℤ). z *ℤ k) (down n y) ∙ less_by_one (negsuc n +ℤ y) k in
    let first = ap (λ (z : ℤ). z *ℤ k) (one_down n) ∙ less_by_one (negsuc n) k in
    let rest = sum_times (negsuc n) y k in
    omega (arith, ints, whole, first, rest)

pub times_sum : (k x y : ℤ) → k *ℤ (x +ℤ y) ≡ k *ℤ x +ℤ k *ℤ y
times_sum k x y =
    *ℤ_comm k (x +ℤ y) ∙ sum_times x y k ∙ ap (λ (z : ℤ). z +ℤ y *ℤ k) (*ℤ_comm x k) ∙ ap (λ (z : ℤ). k *ℤ x +ℤ z) (*ℤ_comm y k)

pub less_times : (x y z : ℤ) → (x -ℤ y) *ℤ z ≡ x *ℤ z -ℤ y *ℤ z
less_times x y z =
    let whole : (x -ℤ y) +ℤ y ≡ x = omega (arith, ints) in
    let sum = sym (sum_times (x -ℤ y) y z) ∙ ap (λ (w : ℤ). w *ℤ z) whole in
    omega (arith, ints, sum)

pub neg_times : (y z : ℤ) → neg_ℤ y *ℤ z ≡ neg_ℤ (y *ℤ z)
neg_times y z =
    let none : neg_ℤ y +ℤ y ≡ pos 0 = omega (arith, ints) in
    let sum = sym (sum_times (neg_ℤ y) y z) ∙ ap (λ (w : ℤ). w *ℤ z) none ∙ zero-*ℤ z in
    omega (arith, ints, sum)

pub times_neg : (y z : ℤ) → y *ℤ neg_ℤ z ≡ neg_ℤ (y *ℤ z)
times_neg y z = *ℤ_comm y (neg_ℤ z) ∙ neg_times z y ∙ ap neg_ℤ (*ℤ_comm z y)

none_assoc : (y z : ℤ) → (pos 0 *ℤ y) *ℤ z ≡ pos 0 *ℤ (y *ℤ z)
none_assoc y z = ap (λ (w : ℤ). w *ℤ z) (zero-*ℤ y) ∙ zero-*ℤ z ∙ sym (zero-*ℤ (y *ℤ z))

-- of three factors it makes no difference which two come first
pub product_assoc : (x y z : ℤ) → (x *ℤ y) *ℤ z ≡ x *ℤ (y *ℤ z)
product_assoc (pos zero) y z = none_assoc y z
product_assoc (pos (suc n)) y z =
    ap (λ (w : ℤ). w *ℤ z) (suc_ℤ-*ℤ (pos n) y)
    ∙ sum_times (pos n *ℤ y) y z
    ∙ ap (λ (w : ℤ). w +ℤ y *ℤ z) (product_assoc (pos n) y z)
    ∙ sym (suc_ℤ-*ℤ (pos n) (y *ℤ z))
product_assoc (negsuc zero) y z =
    ap (λ (w : ℤ). w *ℤ z) (pred_ℤ-*ℤ (pos zero) y)
    ∙ less_times (pos 0 *ℤ y) y z
    ∙ ap (λ (w : ℤ). w -ℤ y *ℤ z) (none_assoc y z)
    ∙ sym (pred_ℤ-*ℤ (pos zero) (y *ℤ z))
product_assoc (negsuc (suc n)) y z =
    ap (λ (w : ℤ). w *ℤ z) (pred_ℤ-*ℤ (negsuc n) y)
    ∙ less_times (negsuc n *ℤ y) y z
    ∙ ap (λ (w : ℤ). w -ℤ y *ℤ z) (product_assoc (negsuc n) y z)
    ∙ sym (pred_ℤ-*ℤ (negsuc n) (y *ℤ z))

-- the square of a sum
pub square_of_sum : (x y : ℤ) → (x +ℤ y) *ℤ (x +ℤ y) ≡ x *ℤ x +ℤ (pos 2 *ℤ (x *ℤ y) +ℤ y *ℤ y)
square_of_sum x y =
    let parts = sum_times x y (x +ℤ y) in
    let first = times_sum x x y in
    let second = times_sum y x y in
    let turned = *ℤ_comm y x in
    let twice : pos 2 *ℤ (x *ℤ y) ≡ x *ℤ y +ℤ x *ℤ y = two (x *ℤ y) in
    omega (arith, ints, parts, first, second, turned, twice)
  where
    two : (z : ℤ) → pos 2 *ℤ z ≡ z +ℤ z
    two z = let once = suc_ℤ-*ℤ (pos 1) z in let first = suc_ℤ-*ℤ (pos 0) z in let none = zero-*ℤ z in omega (arith, ints, once, first, none)
