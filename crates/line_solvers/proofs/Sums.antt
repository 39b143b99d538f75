-- Sums and products of signed numbers as the code reads them back.
use Rattle.std.proofs.Common.{◌≡◌, ◌^◌, ◌≤◌, ℤ, pos, ◌+ℤ◌, ◌-ℤ◌, ◌*ℤ◌, unsigned_abs, arith, ap, ◌∙◌}
use mir.Syntax.{w64, w128}
use mir.Val.{SFits, to_z, of_z}
use Rattle.std.proofs.lemmas.Int.{ints, to_z-of_z, fits_signed_from_abs}
use Rattle.fixed_num.specs.Numbers.{IsValue, IsFactor}

-- a coefficient as it is read back
pub factor_back : (f : ℤ) → IsFactor f → to_z w64 (of_z w64 f) ≡ f
factor_back f factor = to_z-of_z w64 f (fits_signed_from_abs w64 f (omega (arith, factor)))

-- a coefficient times a number that is read from elsewhere
pub factor_product : (f b : ℤ) {x : ℤ} → IsFactor f → SFits w64 b → b ≡ x → to_z w64 (of_z w64 f) *ℤ to_z w64 (of_z w64 b) ≡ f *ℤ x
factor_product f b {x} factor fits is =
    ap (λ (y : ℤ). y *ℤ to_z w64 (of_z w64 b)) (factor_back f factor)
    ∙ ap (λ (y : ℤ). f *ℤ y) (to_z-of_z w64 b fits ∙ is)

pub value_fits : (a : ℤ) → IsValue a → SFits w64 a
value_fits a value = fits_signed_from_abs w64 a (omega (arith, value))

-- a Value as it is read back
pub value_back : (a : ℤ) → IsValue a → to_z w64 (of_z w64 a) ≡ a
value_back a value = to_z-of_z w64 a (value_fits a value)

-- two numbers less twice a third
pub bend_fits : (a b c : ℤ) → IsValue a → IsValue b → IsValue c
    → SFits w64 (to_z w64 (of_z w64 (to_z w64 (of_z w64 a) -ℤ to_z w64 (of_z w64 (pos 2 *ℤ to_z w64 (of_z w64 b))))) +ℤ to_z w64 (of_z w64 c))
bend_fits a b c p q r =
    rw (value_back a p, value_back b q, value_back c r)
    (let twice : SFits w64 (pos 2 *ℤ b) = fits_signed_from_abs w64 (pos 2 *ℤ b) (omega (arith, ints)) in
    rw (to_z-of_z w64 (pos 2 *ℤ b) twice)
    (let apart : SFits w64 (a -ℤ (pos 2 *ℤ b)) = fits_signed_from_abs w64 (a -ℤ (pos 2 *ℤ b)) (omega (arith, ints)) in
    rw (to_z-of_z w64 (a -ℤ (pos 2 *ℤ b)) apart) (fits_signed_from_abs w64 ((a -ℤ (pos 2 *ℤ b)) +ℤ c) (omega (arith, ints)))))

pub bend_back : (a b c : ℤ) → IsValue a → IsValue b → IsValue c
    → to_z w64 (of_z w64 (to_z w64 (of_z w64 (to_z w64 (of_z w64 a) -ℤ to_z w64 (of_z w64 (pos 2 *ℤ to_z w64 (of_z w64 b))))) +ℤ to_z w64 (of_z w64 c)))
    ≡ (a -ℤ (pos 2 *ℤ b)) +ℤ c
bend_back a b c p q r =
    rw (value_back a p, value_back b q, value_back c r)
    (let twice : SFits w64 (pos 2 *ℤ b) = fits_signed_from_abs w64 (pos 2 *ℤ b) (omega (arith, ints)) in
    rw (to_z-of_z w64 (pos 2 *ℤ b) twice)
    (let apart : SFits w64 (a -ℤ (pos 2 *ℤ b)) = fits_signed_from_abs w64 (a -ℤ (pos 2 *ℤ b)) (omega (arith, ints)) in
    rw (to_z-of_z w64 (a -ℤ (pos 2 *ℤ b)) apart) (to_z-of_z w64 ((a -ℤ (pos 2 *ℤ b)) +ℤ c) (fits_signed_from_abs w64 ((a -ℤ (pos 2 *ℤ b)) +ℤ c) (omega (arith, ints))))))

-- the sum of two products of 128 bits
pub two_fit : (a b : ℤ) → SFits w128 a → SFits w128 b → unsigned_abs a ≤ 10 ^ 28 → unsigned_abs b ≤ 10 ^ 28 → SFits w128 (to_z w128 (of_z w128 a) +ℤ to_z w128 (of_z w128 b))
two_fit a b p q small low = rw (to_z-of_z w128 a p, to_z-of_z w128 b q) (fits_signed_from_abs w128 (a +ℤ b) (omega (arith, ints, small, low)))

pub two_back : (a b : ℤ) → SFits w128 a → SFits w128 b → unsigned_abs a ≤ 10 ^ 28 → unsigned_abs b ≤ 10 ^ 28
    → to_z w128 (of_z w128 (to_z w128 (of_z w128 a) +ℤ to_z w128 (of_z w128 b))) ≡ a +ℤ b
two_back a b p q small low =
    rw (to_z-of_z w128 a p, to_z-of_z w128 b q) (to_z-of_z w128 (a +ℤ b) (fits_signed_from_abs w128 (a +ℤ b) (omega (arith, ints, small, low))))

-- a difference of two such products and a third
pub apart_fit : (a b : ℤ) → SFits w128 a → SFits w128 b → unsigned_abs a ≤ 10 ^ 28 → unsigned_abs b ≤ 10 ^ 28 → SFits w128 (to_z w128 (of_z w128 a) -ℤ to_z w128 (of_z w128 b))
apart_fit a b p q small low = rw (to_z-of_z w128 a p, to_z-of_z w128 b q) (fits_signed_from_abs w128 (a -ℤ b) (omega (arith, ints, small, low)))

apart_back : (a b : ℤ) → SFits w128 a → SFits w128 b → unsigned_abs a ≤ 10 ^ 28 → unsigned_abs b ≤ 10 ^ 28
    → to_z w128 (of_z w128 (to_z w128 (of_z w128 a) -ℤ to_z w128 (of_z w128 b))) ≡ a -ℤ b
apart_back a b p q small low =
    rw (to_z-of_z w128 a p, to_z-of_z w128 b q) (to_z-of_z w128 (a -ℤ b) (fits_signed_from_abs w128 (a -ℤ b) (omega (arith, ints, small, low))))

pub three_fit : (a b c : ℤ) → SFits w128 a → SFits w128 b → SFits w128 c → unsigned_abs a ≤ 10 ^ 28 → unsigned_abs b ≤ 10 ^ 28 → unsigned_abs c ≤ 10 ^ 28
    → SFits w128 (to_z w128 (of_z w128 (to_z w128 (of_z w128 a) -ℤ to_z w128 (of_z w128 b))) +ℤ to_z w128 (of_z w128 c))
three_fit a b c p q r small low least =
    rw (apart_back a b p q small low, to_z-of_z w128 c r) (fits_signed_from_abs w128 ((a -ℤ b) +ℤ c) (omega (arith, ints, small, low, least)))

pub three_back : (a b c : ℤ) → SFits w128 a → SFits w128 b → SFits w128 c → unsigned_abs a ≤ 10 ^ 28 → unsigned_abs b ≤ 10 ^ 28 → unsigned_abs c ≤ 10 ^ 28
    → to_z w128 (of_z w128 (to_z w128 (of_z w128 (to_z w128 (of_z w128 a) -ℤ to_z w128 (of_z w128 b))) +ℤ to_z w128 (of_z w128 c))) ≡ (a -ℤ b) +ℤ c
three_back a b c p q r small low least =
    rw (apart_back a b p q small low, to_z-of_z w128 c r)
    (to_z-of_z w128 ((a -ℤ b) +ℤ c) (fits_signed_from_abs w128 ((a -ℤ b) +ℤ c) (omega (arith, ints, small, low, least))))
