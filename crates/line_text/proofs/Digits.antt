-- Lemmas on texts of digits and the numbers that they write.
use Rattle.std.proofs.Common.{◌≡◌, ℕ, ◌+◌, ◌*◌, ◌^◌, ◌<◌, ◌≤◌, ◌-◌, ◌&&◌, true, min, take, List, [], ◌∷◌, length, get_or, refl, ◌↔◌, sym, ◌∙◌, ap, arith, subst, lit<, Option, Some, None, unwrap_or}
use Rattle.std.proofs.Math.Nat.{pow-suc, pow-zero, one-le-pow, mul-le-mul_right}
use Rattle.std.proofs.lemmas.Nat.{pow-add}
use Rattle.std.proofs.lemmas.Int.Digits.{digits_value_more, digits_value-lt}
use Rattle.std.specs.List.{list_all}
use Rattle.std.proofs.lemmas.Bool.{lt-ltb}
use Rattle.std.proofs.lemmas.Str.{digit_value_digit}
use Rattle.std.proofs.lemmas.Str.Parse.{IsNumeralModel, numerals_by_value, tells_all_ascii_digits, digit_at, digits_value_short}
use Rattle.std.specs.Char.{digit_value, is_ascii_digit}
use Rattle.std.specs.Int.{IsInRange}
use Rattle.std.specs.Str.{all_ascii_digits}
use Rattle.std.specs.Str.Parse.{digits_value, digits_value_after}
use Rattle.line_text.specs.Spelling.{is_digits, are_decimals}

-- the texts of digits and their numbers, as std's lemmas take them
pub own : IsNumeralModel (λ ds. all_ascii_digits ds ≡ true) (digits_value 10)
own = numerals_by_value _ tells_all_ascii_digits

-- the digits after n's stand for what they write, and n for as many powers of ten
pub value_after : (n : ℕ) (cs : List ℕ) → digits_value_after 10 n cs ≡ n * 10 ^ length cs + digits_value 10 cs
value_after n [] = omega (arith, ap (λ x. n * x) (pow-zero 10))
value_after n (c ∷ cs) =
    omega (arith, ap (λ x. n * x) (pow-suc 10 (length cs)), value_after (n * 10 + digit_value c) cs, value_after (0 * 10 + digit_value c) cs)

-- the first digit stands for as many powers of ten as follow it
pub value-cons : (c : ℕ) (cs : List ℕ) → digits_value 10 (c ∷ cs) ≡ digit_value c * 10 ^ length cs + digits_value 10 cs
value-cons c cs = omega (arith, value_after (0 * 10 + digit_value c) cs)

-- a digit is one, and what follows it are digits
pub parts : (c : ℕ) (cs : List ℕ) → all_ascii_digits (c ∷ cs) ≡ true → IsInRange 48 57 c × (all_ascii_digits cs ≡ true)
parts = tells_all_ascii_digits.parts

pub more : (c : ℕ) (cs : List ℕ) → IsInRange 48 57 c → all_ascii_digits cs ≡ true → all_ascii_digits (c ∷ cs) ≡ true
more = tells_all_ascii_digits.more

-- each digit is one
pub in_range : (ds : List ℕ) (i : ℕ) → all_ascii_digits ds ≡ true → i < length ds → IsInRange 48 57 (get_or ds i 0)
in_range ds i h lt = digit_at ds i (own.to ds h) lt

-- the same of an equal text
pub digit_low : (ds es : List ℕ) (i : ℕ) → es ≡ ds → all_ascii_digits ds ≡ true → i < length es → 48 ≤ get_or es i 0
digit_low ds es i e h lt = let P : List ℕ → Type 0 = λ x. all_ascii_digits x ≡ true in (in_range es i (subst P (sym e) h) lt).0

-- one more digit of a number that is capped
pub capped_more : (ds es : List ℕ) (i n r d : ℕ) → es ≡ ds → all_ascii_digits ds ≡ true → i < length es
    → n ≡ min (digits_value 10 (take i ds)) 10000001 → d ≡ get_or es i 0 - 48 → r ≡ min 10000001 (10 * n + d)
    → r ≡ min (digits_value 10 (take (i + 1) ds)) 10000001
capped_more ds es i n r d e h lt so_far digit more =
    let P : List ℕ → Type 0 = λ x. i < length x in
    let below : i < length ds = subst P e lt in
    let same : get_or es i 0 ≡ get_or ds i 0 = ap (λ x. get_or x i 0) e in
    let range : IsInRange 48 57 (get_or ds i 0) = in_range ds i h below in
    omega (arith, so_far, digit, more, same, range.0, digit_value_digit (get_or ds i 0) range, digits_value_more 10 ds i below)

-- the test of each byte, as `all` gives it
pub all_is : (ds : List ℕ) → list_all is_ascii_digit ds ≡ all_ascii_digits ds
all_is [] = refl
all_is (c ∷ cs) = ap (λ b. is_ascii_digit c && b) (all_is cs)

-- digits of a text with one or more
pub all_from : (ds : List ℕ) → is_digits ds ≡ true → all_ascii_digits ds ≡ true
all_from ds h = grind arith

-- the decimals are digits
pub all_decimals : (o : Option (List ℕ)) → are_decimals o ≡ true → all_ascii_digits (unwrap_or o []) ≡ true
all_decimals None h = refl
all_decimals (Some ds) h = all_from ds h

-- a number below a power of ten, and the power that is left of a greater one
pub below_power : (k v n : ℕ) → v < 10 ^ n → n ≤ k → v * 10 ^ (k - n) < 10 ^ k
below_power k v n lt short =
    let rest : n + (k - n) ≡ k = omega arith in
    let whole : 10 ^ n * 10 ^ (k - n) ≡ 10 ^ k = sym (pow-add 10 n (k - n)) ∙ ap (λ e. 10 ^ e) rest in
    omega (arith, whole, one-le-pow (k - n) 10 (lit< tt), mul-le-mul_right (10 ^ (k - n)) lt)

-- decimals of at most six digits are less than one
pub decimals-lt : (ds : List ℕ) → all_ascii_digits ds ≡ true → length ds ≤ 6 → digits_value 10 ds * 10 ^ (6 - length ds) < 10 ^ 6
decimals-lt ds h short = below_power 6 (digits_value 10 ds) (length ds) (digits_value-lt 10 ds (own.to ds h)) short

-- a whole part that is capped goes past the limit where the whole part does, and is it else
pub capped_past : (w d m : ℕ) → d < 10 ^ 6 → m ≡ min w 10000001 * 10 ^ 6 + d
    → ((10 ^ 13 < m) ↔ (10 ^ 13 < w * 10 ^ 6 + d)) × (m ≤ 10 ^ 13 → m ≡ w * 10 ^ 6 + d)
capped_past w d m lt e = ((λ h. omega arith, λ h. omega arith), λ h. omega arith)

-- the code's sum of capped parts
pub capped_magnitude : (w r q p : ℕ) (ds : List ℕ) → all_ascii_digits ds ≡ true → length ds ≤ 6
    → p ≡ 10 ^ (6 - length ds) → r ≡ min w 10000001 → q ≡ min (digits_value 10 ds) 10000001
    → (r * 10 ^ 6 + q * p ≡ min w 10000001 * 10 ^ 6 + digits_value 10 ds * 10 ^ (6 - length ds)) × (r * 10 ^ 6 + q * p < 2 ^ 64)
capped_magnitude w r q p ds h short power capped exact =
    let small : digits_value 10 ds < 10 ^ 6 = digits_value_short own ds 6 h short in
    let q_is : q ≡ digits_value 10 ds = omega (arith, small, exact) in
    let product : q * p ≡ digits_value 10 ds * 10 ^ (6 - length ds) = ap (λ x. x * p) q_is ∙ ap (λ x. digits_value 10 ds * x) power in
    (omega (arith, capped, product), omega (arith, capped, product, decimals-lt ds h short))

-- one digit or more
pub digits_from : (ds : List ℕ) → 0 < length ds → all_ascii_digits ds ≡ true → is_digits ds ≡ true
digits_from ds some h = ap (λ b. b && all_ascii_digits ds) (lt-ltb 0 (length ds) some) ∙ h
