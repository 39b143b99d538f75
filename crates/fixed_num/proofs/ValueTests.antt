-- The test of a Value, for definitions that look for a number that is none.
use Rattle.std.proofs.Common.{◌≡◌, ◌<◌, ◌^◌, true, false, ℤ, unsigned_abs, arith}
use Rattle.std.proofs.lemmas.Bool.Decides.{nat_tests}
use Rattle.fixed_num.specs.Numbers.{IsValue, is_value}

-- a Value passes
pub is_value-true : (units : ℤ) → IsValue units → is_value units ≡ true
is_value-true units h = grind (arith, nat_tests)

-- what is none fails
pub is_value-false : (units : ℤ) → (IsValue units → ⊥) → is_value units ≡ false
is_value-false units h = let over : 10 ^ 13 < unsigned_abs units = omega arith in grind (arith, nat_tests)

-- what passes is a Value
pub value_from_true : (units : ℤ) → is_value units ≡ true → IsValue units
value_from_true units h = grind (arith, nat_tests)

-- what fails is none
pub no_value_from_false : (units : ℤ) → is_value units ≡ false → IsValue units → ⊥
no_value_from_false units h value = grind (arith, nat_tests)
