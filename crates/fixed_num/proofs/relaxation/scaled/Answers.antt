use Rattle.std.proofs.Common.{◌≡◌, ◌*◌, ◌^◌, ◌≤◌, ℤ, ◌*ℤ◌, unsigned_abs, ◌∙◌, arith, ap}
use mir.Syntax.{w64, w128}
use mir.Val.{to_z, of_z}
use Rattle.std.proofs.lemmas.Int.{unsigned_abs-mul, to_z-of_z, fits_signed_from_abs}
use Rattle.std.proofs.Math.Nat.{mul-le-mul}
use Rattle.fixed_num.specs.Numbers.{quotient}
use Rattle.fixed_num.proofs.Quotients.{quotient-le}
use Rattle.fixed_num.proofs.relaxation.scaled.Goals as goal

factor_is : (c : goal.After-quot_even) → c.from.result ≡ c.args.w
factor_is c = c.from.ensures ∙ to_z-of_z w64 c.args.w c.ranges.w

product_le : (c : goal.After-quot_even) → unsigned_abs (c.args.w *ℤ c.args.a) ≤ 10 ^ 9 * (2 * 10 ^ 13)
product_le c = rw (unsigned_abs-mul c.args.w c.args.a) (mul-le-mul {n₂ = 10 ^ 9} {m₂ = 2 * 10 ^ 13} c.requires.factor c.requires.small)

-- the product as the code reads it back
product_is : (c : goal.After-quot_even) → to_z w128 (of_z w128 (to_z w128 (of_z w128 c.from.result) *ℤ to_z w128 (of_z w128 c.args.a))) ≡ c.args.w *ℤ c.args.a
product_is c =
    let w = to_z-of_z w128 c.from.result (record { sfits = c.from.type_inv }) ∙ factor_is c in
    let a = to_z-of_z w128 c.args.a c.ranges.a in
    ap (λ (x : ℤ). to_z w128 (of_z w128 (x *ℤ to_z w128 (of_z w128 c.args.a)))) w
    ∙ ap (λ (x : ℤ). to_z w128 (of_z w128 (c.args.w *ℤ x))) a
    ∙ to_z-of_z w128 (c.args.w *ℤ c.args.a) (fits_signed_from_abs w128 (c.args.w *ℤ c.args.a) (omega (arith, product_le c)))

quotient_is : (c : goal.After-quot_even) → c.quot_even.result ≡ quotient (c.args.w *ℤ c.args.a) (10 ^ 6)
quotient_is c = c.quot_even.ensures.value ∙ ap (λ (x : ℤ). quotient x (10 ^ 6)) (product_is c)

quotient_back : (c : goal.After-quot_even) → to_z w128 (of_z w128 c.quot_even.result) ≡ c.quot_even.result
quotient_back c = to_z-of_z w128 c.quot_even.result (record { sfits = c.quot_even.type_inv })

pub returns-clause-value : goal.returns-clause-value
returns-clause-value c = quotient_back c ∙ quotient_is c

pub returns-clause-bound : goal.returns-clause-bound
returns-clause-bound c =
    rw (returns-clause-value c)
    (quotient-le (c.args.w *ℤ c.args.a) (10 ^ 6) (2 * 10 ^ 16) (omega arith) (omega (arith, product_le c)))
