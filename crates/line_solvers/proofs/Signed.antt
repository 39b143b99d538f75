-- Products of signed numbers: sums, zero and one million.
use Rattle.std.proofs.Common.{◌≡◌, ℕ, zero, suc, ◌^◌, ℤ, pos, negsuc, ◌+ℤ◌, ◌-ℤ◌, ◌*ℤ◌, unsigned_abs, arith, refl, sym, ap, ◌∙◌}
use Rattle.std.proofs.Math.IntN.{suc_ℤ, pred_ℤ, suc_ℤ-*ℤ, pred_ℤ-*ℤ, *ℤ_comm, zero-*ℤ, +ℤ_idl}
use Rattle.std.proofs.lemmas.Int.{ints}
use Rattle.fixed_num.specs.Numbers.{distance, quotient, nearest_of}
use Rattle.fixed_num.proofs.Quotients.{quotient-IsRoundedQuotient, only_quotient}

suc_ℤ-is : (m : ℤ) → m +ℤ pos 1 ≡ suc_ℤ m
suc_ℤ-is (pos n) = omega (arith, ints)
suc_ℤ-is (negsuc zero) = refl
suc_ℤ-is (negsuc (suc n)) = omega (arith, ints)

pred_ℤ-is : (m : ℤ) → m -ℤ pos 1 ≡ pred_ℤ m
pred_ℤ-is (pos zero) = refl
pred_ℤ-is (pos (suc n)) = omega (arith, ints)
pred_ℤ-is (negsuc n) = omega (arith, ints)

up : (n : ℕ) (y : ℤ) → pos (suc n) +ℤ y ≡ (pos n +ℤ y) +ℤ pos 1
up n y = omega (arith, ints)

down_first : (y : ℤ) → negsuc zero +ℤ y ≡ y -ℤ pos 1
down_first y = omega (arith, ints)

down : (n : ℕ) (y : ℤ) → negsuc (suc n) +ℤ y ≡ (negsuc n +ℤ y) -ℤ pos 1
down n y = omega (arith, ints)

regroup_up : (a b c : ℤ) → (a +ℤ b) +ℤ c ≡ (a +ℤ c) +ℤ b
regroup_up a b c = omega (arith, ints)

regroup_down : (a b c : ℤ) → (a +ℤ b) -ℤ c ≡ (a -ℤ c) +ℤ b
regroup_down a b c = omega (arith, ints)

regroup_first : (b c : ℤ) → b -ℤ c ≡ (pos 0 -ℤ c) +ℤ b
regroup_first b c = omega (arith, ints)

-- a sum times a number
sum_times : (x y k : ℤ) → (x +ℤ y) *ℤ k ≡ x *ℤ k +ℤ y *ℤ k
sum_times (pos zero) y k = ap (λ (z : ℤ). z *ℤ k) (+ℤ_idl y) ∙ sym (+ℤ_idl (y *ℤ k)) ∙ ap (λ (z : ℤ). z +ℤ y *ℤ k) (sym (zero-*ℤ k))
sum_times (pos (suc n)) y k =
    ap (λ (z : ℤ). z *ℤ k) (up n y ∙ suc_ℤ-is (pos n +ℤ y))
    ∙ suc_ℤ-*ℤ (pos n +ℤ y) k
    ∙ ap (λ (z : ℤ). z +ℤ k) (sum_times (pos n) y k)
    ∙ regroup_up (pos n *ℤ k) (y *ℤ k) k
    ∙ ap (λ (z : ℤ). z +ℤ y *ℤ k) (sym (suc_ℤ-*ℤ (pos n) k))
sum_times (negsuc zero) y k =
    ap (λ (z : ℤ). z *ℤ k) (down_first y ∙ pred_ℤ-is y)
    ∙ pred_ℤ-*ℤ y k
    ∙ regroup_first (y *ℤ k) k
    ∙ ap (λ (z : ℤ). (z -ℤ k) +ℤ y *ℤ k) (sym (zero-*ℤ k))
    ∙ ap (λ (z : ℤ). z +ℤ y *ℤ k) (sym (pred_ℤ-*ℤ (pos zero) k))
sum_times (negsuc (suc n)) y k =
    ap (λ (z : ℤ). z *ℤ k) (down n y ∙ pred_ℤ-is (negsuc n +ℤ y))
    ∙ pred_ℤ-*ℤ (negsuc n +ℤ y) k
    ∙ ap (λ (z : ℤ). z -ℤ k) (sum_times (negsuc n) y k)
    ∙ regroup_down (negsuc n *ℤ k) (y *ℤ k) k
    ∙ ap (λ (z : ℤ). z +ℤ y *ℤ k) (sym (pred_ℤ-*ℤ (negsuc n) k))

pub times_sum : (k x y : ℤ) → k *ℤ (x +ℤ y) ≡ k *ℤ x +ℤ k *ℤ y
times_sum k x y =
    *ℤ_comm k (x +ℤ y) ∙ sum_times x y k ∙ ap (λ (z : ℤ). z +ℤ y *ℤ k) (*ℤ_comm x k) ∙ ap (λ (z : ℤ). k *ℤ x +ℤ z) (*ℤ_comm y k)

no_distance : (a : ℤ) → unsigned_abs (a -ℤ a) ≡ 0
no_distance a = omega (arith, ints)

-- a million times a number, in whole
pub quotient-one : (a : ℤ) → quotient (pos (10 ^ 6) *ℤ a) (10 ^ 6) ≡ a
quotient-one a =
    let exact : distance (pos (10 ^ 6) *ℤ a) (10 ^ 6) a ≡ 0 =
    ap (λ (n : ℤ). unsigned_abs (n -ℤ (a *ℤ pos (10 ^ 6)))) (*ℤ_comm (pos (10 ^ 6)) a) ∙ no_distance (a *ℤ pos (10 ^ 6)) in
    only_quotient (pos (10 ^ 6) *ℤ a) a (quotient (pos (10 ^ 6) *ℤ a) (10 ^ 6)) (10 ^ 6) (omega arith)
    (record { near = omega (arith, exact); even_midway = λ midway. absurd (omega (arith, exact, midway)) })
    (quotient-IsRoundedQuotient (pos (10 ^ 6) *ℤ a) (10 ^ 6) (omega arith))

pub quotient-zero : quotient (pos 0) (10 ^ 6) ≡ pos 0
unfolding quotient nearest_of
quotient-zero = refl
