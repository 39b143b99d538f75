-- How large products, their quotients and their sums can be.
use Rattle.std.proofs.Common.{◌≡◌, ℕ, ◌*◌, ◌^◌, ◌≤◌, ℤ, ◌+ℤ◌, ◌*ℤ◌, unsigned_abs, arith, ap, ◌∙◌}
use mir.Syntax.{w64, w128}
use mir.Val.{SFits, to_z, of_z}
use Rattle.std.proofs.lemmas.Int.{ints, to_z-of_z, fits_signed_from_abs}
use Rattle.fixed_num.specs.Numbers.{IsValue, IsRoundedQuotient, quotient}
use Rattle.line_solvers.specs.Moved.{moved}
use Rattle.fixed_num.proofs.Quotients.{quotient-le, quotient-IsRoundedQuotient}

-- a product as the code reads its factors back
pub product_back : (a b : ℤ) {x : ℤ} → SFits w128 a → a ≡ x → SFits w128 b → to_z w128 (of_z w128 a) *ℤ to_z w128 (of_z w128 b) ≡ x *ℤ b
product_back a b {x} left is right =
    ap (λ (y : ℤ). y *ℤ to_z w128 (of_z w128 b)) (to_z-of_z w128 a left ∙ is) ∙ ap (λ (y : ℤ). x *ℤ y) (to_z-of_z w128 b right)

-- the change of a Value to a Value is small
too_far : (from a q : ℤ) → IsValue from → IsRoundedQuotient a (10 ^ 6) q → IsValue (from +ℤ q) → unsigned_abs a ≤ 3 * 10 ^ 19
too_far from a q before rounded after = let near = rounded.near in omega (arith, ints, near)

-- a change that does not fit 128 bits makes no Value
pub no_value : (from a : ℤ) → IsValue from → (SFits w128 a → ⊥) → IsValue (from +ℤ quotient a (10 ^ 6)) → ⊥
no_value from a before large after =
    let small = too_far from a (quotient a (10 ^ 6)) before (quotient-IsRoundedQuotient a (10 ^ 6) (omega arith)) after in
    large (fits_signed_from_abs w128 a (omega (arith, small)))

-- one that fits does not make the sum wrap
pub moved-fits : (from a : ℤ) → IsValue from → SFits w128 a → SFits w128 (from +ℤ quotient a (10 ^ 6))
moved-fits from a before fits =
    let small : unsigned_abs a ≤ 2 ^ 108 * 10 ^ 6 = omega (arith, ints, fits.sfits) in
    let change = quotient-le a (10 ^ 6) (2 ^ 108) (omega arith) small in
    fits_signed_from_abs w128 (from +ℤ quotient a (10 ^ 6)) (omega (arith, ints, change, before))

-- the moved component as the code reads its parts back: f, the change c and its quotient q
pub moved_back : {from a : ℤ} (f c q : ℤ) → SFits w128 f → f ≡ from → SFits w128 a → c ≡ a → SFits w128 q → q ≡ quotient (to_z w128 (of_z w128 c)) (10 ^ 6)
    → to_z w128 (of_z w128 f) +ℤ to_z w128 (of_z w128 q) ≡ from +ℤ quotient a (10 ^ 6)
moved_back {from} {a} f c q f_fits is a_fits change q_fits rounded =
    let read : to_z w128 (of_z w128 c) ≡ a = rw change (to_z-of_z w128 a a_fits) in
    ap (λ (x : ℤ). x +ℤ to_z w128 (of_z w128 q)) (to_z-of_z w128 f f_fits ∙ is)
    ∙ ap (λ (x : ℤ). from +ℤ x) (to_z-of_z w128 q q_fits ∙ rounded ∙ ap (λ (x : ℤ). quotient x (10 ^ 6)) read)

-- a moved component as the code passes its parts on
pub moved_args : (from slope : ℤ) (ticks : ℕ) {meant : ℤ} → IsValue from → SFits w128 slope → slope ≡ meant
    → moved (to_z w64 (of_z w64 from)) (to_z w128 (of_z w128 slope)) ticks ≡ moved from meant ticks
moved_args from slope ticks {meant} value fits is =
    ap (λ (x : ℤ). moved x (to_z w128 (of_z w128 slope)) ticks) (to_z-of_z w64 from (fits_signed_from_abs w64 from (omega (arith, value))))
    ∙ ap (λ (x : ℤ). moved from x ticks) (to_z-of_z w128 slope fits ∙ is)
