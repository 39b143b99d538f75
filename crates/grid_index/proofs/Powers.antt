-- Powers of how many dimensions there may be.
use Rattle.std.proofs.Common.{◌≡◌, ℕ, zero, suc, ◌+◌, ◌*◌, ◌^◌, ◌<◌, ◌≤◌, ap, ◌∙◌, arith, rules, mul-le-mul, pow-suc}
use native.Mathlib.Nat.{pow-zero}
use Rattle.mesh_data.specs.Points.{IsDimension}

square_is : (n : ℕ) → n ^ 2 ≡ n * n
square_is n = search rules

cube_is : (n : ℕ) → n ^ 3 ≡ n * n * n
cube_is n = pow-suc n 2 ∙ ap (λ (m : ℕ). m * n) (square_is n)

one_is : (n : ℕ) → n ^ 1 ≡ n
one_is n = pow-suc n 0 ∙ rw pow-zero (omega arith)

pub power-one : (d : ℕ) → 1 ^ d ≡ 1
power-one zero = pow-zero 1
power-one (suc d) = omega (arith, pow-suc 1 d, power-one d)

-- a number is at most its power
pub le-power : (n dimensions : ℕ) → 0 < n → IsDimension dimensions → n ≤ n ^ dimensions
le-power n zero some is = absurd (omega arith)
le-power n (suc zero) some is = omega (arith, one_is n)
le-power n (suc (suc zero)) some is =
    let square : 1 * n ≤ n * n = mul-le-mul (omega arith) (omega arith) in omega (arith, square_is n, square)
le-power n (suc (suc (suc zero))) some is =
    let square : 1 * n ≤ n * n = mul-le-mul (omega arith) (omega arith) in
    let cube : (1 * n) * 1 ≤ (n * n) * n = mul-le-mul square (omega arith) in
    omega (arith, cube_is n, cube)
le-power n (suc (suc (suc (suc d)))) some is = absurd (omega arith)

-- a power of a small number fits
pub power_fits : (n dimensions : ℕ) → n ≤ 10001 → IsDimension dimensions → n ^ dimensions < 2 ^ 64
power_fits n zero small is = absurd (omega arith)
power_fits n (suc zero) small is = omega (arith, one_is n)
power_fits n (suc (suc zero)) small is =
    let square : n * n ≤ 10001 * 10001 = mul-le-mul small small in omega (arith, square_is n, square)
power_fits n (suc (suc (suc zero))) small is =
    let square : n * n ≤ 10001 * 10001 = mul-le-mul small small in
    let cube : (n * n) * n ≤ (10001 * 10001) * 10001 = mul-le-mul square small in
    omega (arith, cube_is n, cube)
power_fits n (suc (suc (suc (suc d)))) small is = absurd (omega arith)
