-- Lemmas on the printed decimals.
use Rattle.std.proofs.Common.{◌≡◌, ◌≢◌, ℕ, suc, zero, ◌+◌, ◌-◌, ◌*◌, ◌/◌, ◌%◌, ◌^◌, ◌<◌, ◌≤◌, true, List, [], ◌∷◌, ◌++◌, length, get_or, refl, sym, ap, arith, ◌∙◌, append_assoc, append-nil, lit<}
use Rattle.std.proofs.Math.Nat.{pow-succ', pow-zero, one-le-pow, mul-le-mul_right}
use Rattle.std.proofs.lemmas.Nat.{div_below, mod_below, div-add-mod', pow-add, div-mul-add, mod-mul-add}
use Rattle.std.proofs.lemmas.Int.Digits.{digits_value-lt}
use Rattle.std.proofs.lemmas.Str.{digit_value_digit}
use Rattle.std.specs.Char.{digit_value}
use Rattle.std.specs.Int.{IsInRange}
use Rattle.std.specs.Str.{all_ascii_digits}
use Rattle.std.specs.Str.Parse.{digits_value}
use Rattle.line_text.proofs.Digits.{own, more, value-cons, below_power, parts as parts_of}
use Rattle.line_text.specs.Printing.{decimal_digits}

-- nothing is written at the last place
pub digits_end : (parts : ℕ) → decimal_digits 0 parts ≡ []
unfolding decimal_digits
digits_end parts = refl

-- nothing is written for nothing
pub digits_none : (places : ℕ) → decimal_digits places 0 ≡ []
unfolding decimal_digits
digits_none zero = refl
digits_none (suc places) = refl

-- one digit, and then those of the rest
pub digits_step : (places parts : ℕ) → 0 < parts
    → decimal_digits (suc places) parts ≡ (48 + parts / 10 ^ places) ∷ decimal_digits places (parts % 10 ^ places)
unfolding decimal_digits
digits_step places parts h = grind arith

-- a power of ten is not zero
pub weight_above : (k w : ℕ) → w ≡ 10 ^ k → 0 < w
weight_above k w e = omega (arith, e, one-le-pow k 10 (lit< tt))

-- the first digit of what is left is one
pub digit_below : (places left w : ℕ) → 0 < left → left < 10 ^ places → w ≡ 10 ^ (places - 1) → left / w < 10
digit_below zero left w some lt e = absurd (omega (arith, some, lt, pow-zero 10))
digit_below (suc p) left w some lt e =
    let before : suc p - 1 ≡ p = omega arith in
    let power : w ≡ 10 ^ p = e ∙ ap (λ k. 10 ^ k) before in
    div_below left w 10 (weight_above p w power) (omega (arith, lt, pow-succ' 10 p, power))

-- one digit, and then those of the rest, by the place before
pub digits_at : (places left w : ℕ) → 0 < left → left < 10 ^ places → w ≡ 10 ^ (places - 1)
    → decimal_digits places left ≡ (48 + left / w) ∷ decimal_digits (places - 1) (left % w)
digits_at zero left w some lt e = absurd (omega (arith, some, lt, pow-zero 10))
digits_at (suc p) left w some lt e =
    let before : suc p - 1 ≡ p = omega arith in
    let power : w ≡ 10 ^ p = e ∙ ap (λ k. 10 ^ k) before in
    rw before (rw power (digits_step p left some))

-- a digit moves from what is left to what is written
pub digit_moves : (places left w d : ℕ) (written now all : List ℕ) → 0 < left → left < 10 ^ places → w ≡ 10 ^ (places - 1)
    → d ≡ left / w → now ≡ written ++ ((48 + d) ∷ []) → written ++ decimal_digits places left ≡ all
    → now ++ decimal_digits (places - 1) (left % w) ≡ all
digit_moves places left w d written now all some lt e digit more so_far =
    ap (λ x. x ++ decimal_digits (places - 1) (left % w)) (more ∙ ap (λ x. written ++ ((48 + x) ∷ [])) digit)
    ∙ append_assoc written ((48 + left / w) ∷ []) (decimal_digits (places - 1) (left % w))
    ∙ ap (λ x. written ++ x) (sym (digits_at places left w some lt e))
    ∙ so_far

-- nothing is left to write
pub all_written : (places left : ℕ) (written all : List ℕ) → left ≡ 0 → written ++ decimal_digits places left ≡ all → written ≡ all
all_written places left written all none so_far =
    sym (append-nil written)
    ∙ ap (λ x. written ++ x) (sym (digits_none places) ∙ ap (λ x. decimal_digits places x) (sym none))
    ∙ so_far

-- what is left after a digit
pub rest_below : (places left w : ℕ) → w ≡ 10 ^ (places - 1) → left % w < 10 ^ (places - 1)
rest_below places left w e = omega (arith, e, mod_below left w (weight_above (places - 1) w e))

-- the first digit of parts of a power of ten
first_digit : (places parts : ℕ) → parts < 10 ^ suc places → IsInRange 48 57 (48 + parts / 10 ^ places)
first_digit places parts lt =
    (omega arith, omega (arith, div_below parts (10 ^ places) 10 (weight_above places (10 ^ places) refl) (omega (arith, lt, pow-succ' 10 places))))

-- the rest of them
rest_lt : (places parts : ℕ) → parts % 10 ^ places < 10 ^ places
rest_lt places parts = mod_below parts (10 ^ places) (weight_above places (10 ^ places) refl)

-- they are digits
pub digits_all : (places parts : ℕ) → parts < 10 ^ places → all_ascii_digits (decimal_digits places parts) ≡ true
digits_all zero parts lt = ap all_ascii_digits (digits_end parts)
digits_all (suc places) zero lt = ap all_ascii_digits (digits_none (suc places))
digits_all (suc places) (suc n) lt =
    ap all_ascii_digits (digits_step places (suc n) (omega arith))
    ∙ more (48 + suc n / 10 ^ places) (decimal_digits places (suc n % 10 ^ places)) (first_digit places (suc n) lt) (digits_all places (suc n % 10 ^ places) (rest_lt places (suc n)))

-- and no more than there are places
pub digits_len : (places parts : ℕ) → length (decimal_digits places parts) ≤ places
digits_len zero parts = omega (arith, ap length (digits_end parts))
digits_len (suc places) zero = omega (arith, ap length (digits_none (suc places)))
digits_len (suc places) (suc n) =
    omega (arith, ap length (digits_step places (suc n) (omega arith)), digits_len places (suc n % 10 ^ places))

-- something is written for something
pub digits_some : (places parts : ℕ) → 0 < parts → parts < 10 ^ places → 0 < length (decimal_digits places parts)
digits_some zero parts some lt = absurd (omega (arith, some, lt, pow-zero 10))
digits_some (suc places) parts some lt = omega (arith, ap length (digits_step places parts some))

-- a digit and the digits after it, as parts
weighed : (places n v q c d : ℕ) → n ≤ places → c ≡ 48 + q → d + 48 ≡ c
    → (d * 10 ^ n + v) * 10 ^ (places - n) ≡ q * 10 ^ places + v * 10 ^ (places - n)
weighed places n v q c d le ec ed =
    let sum : n + (places - n) ≡ places = omega arith in
    let power : 10 ^ n * 10 ^ (places - n) ≡ 10 ^ places = sym (pow-add 10 n (places - n)) ∙ ap (λ k. 10 ^ k) sum in
    let digit : d ≡ q = omega (arith, ec, ed) in
    omega (arith, ap (λ x. x * 10 ^ n * 10 ^ (places - n)) digit, ap (λ x. q * x) power)

pub weighed_cons : (places c : ℕ) (ds : List ℕ) → IsInRange 48 57 c → length ds ≤ places
    → digits_value 10 (c ∷ ds) * 10 ^ (suc places - length (c ∷ ds)) ≡ (c - 48) * 10 ^ places + digits_value 10 ds * 10 ^ (places - length ds)
weighed_cons places c ds range le =
    let left : suc places - length (c ∷ ds) ≡ places - length ds = omega arith in
    ap (λ x. digits_value 10 (c ∷ ds) * 10 ^ x) left
    ∙ ap (λ x. x * 10 ^ (places - length ds)) (value-cons c ds)
    ∙ weighed places (length ds) (digits_value 10 ds) (c - 48) c (digit_value c) le (omega (arith, range.0)) (digit_value_digit c range)

-- they write the parts
pub digits_write : (places parts : ℕ) → parts < 10 ^ places
    → digits_value 10 (decimal_digits places parts) * 10 ^ (places - length (decimal_digits places parts)) ≡ parts
digits_write zero parts lt =
    ap (λ ds. digits_value 10 ds * 10 ^ (0 - length ds)) (digits_end parts) ∙ omega (arith, lt, pow-zero 10)
digits_write (suc places) zero lt =
    ap (λ ds. digits_value 10 ds * 10 ^ (suc places - length ds)) (digits_none (suc places)) ∙ omega arith
digits_write (suc places) (suc n) lt =
    let c : ℕ = 48 + suc n / 10 ^ places in
    let ds : List ℕ = decimal_digits places (suc n % 10 ^ places) in
    let c_is : c - 48 ≡ suc n / 10 ^ places = omega arith in
    ap (λ xs. digits_value 10 xs * 10 ^ (suc places - length xs)) (digits_step places (suc n) (omega arith))
    ∙ weighed_cons places c ds (first_digit places (suc n) lt) (digits_len places (suc n % 10 ^ places))
    ∙ ap (λ x. x * 10 ^ places + digits_value 10 ds * 10 ^ (places - length ds)) c_is
    ∙ ap (λ x. suc n / 10 ^ places * 10 ^ places + x) (digits_write places (suc n % 10 ^ places) (rest_lt places (suc n)))
    ∙ div-add-mod' (suc n) (10 ^ places)

-- the last of some digits after a digit is theirs
pub last-cons : (c : ℕ) (ds : List ℕ) → 0 < length ds → get_or (c ∷ ds) (length (c ∷ ds) - 1) 0 ≡ get_or ds (length ds - 1) 0
last-cons c [] lt = absurd (omega (arith, lt))
last-cons c (d ∷ ds) lt =
    let place : length (c ∷ d ∷ ds) - 1 ≡ suc (length (d ∷ ds) - 1) = omega arith in ap (λ k. get_or (c ∷ d ∷ ds) k 0) place

-- the last of a digit and the digits of the rest
last_step : (places c r : ℕ) → (r ≡ 0 → c ≢ 48) → (0 < r → get_or (decimal_digits places r) (length (decimal_digits places r) - 1) 0 ≢ 48)
    → (0 < r → 0 < length (decimal_digits places r))
    → get_or (c ∷ decimal_digits places r) (length (c ∷ decimal_digits places r) - 1) 0 ≢ 48
last_step places c zero first more some h =
    first refl (sym (ap (λ xs. get_or (c ∷ xs) (length (c ∷ xs) - 1) 0) (digits_none places)) ∙ h)
last_step places c (suc r) first more some h =
    let there : 0 < suc r = omega arith in more there (sym (last-cons c (decimal_digits places (suc r)) (some there)) ∙ h)

-- the last digit is not zero
pub digits_last : (places parts : ℕ) → 0 < parts → parts < 10 ^ places
    → get_or (decimal_digits places parts) (length (decimal_digits places parts) - 1) 0 ≢ 48
digits_last zero parts some lt h = absurd (omega (arith, some, lt, pow-zero 10))
digits_last (suc places) parts some lt h =
    let r : ℕ = parts % 10 ^ places in
    last_step places (48 + parts / 10 ^ places) r
    (λ none e. let q : parts / 10 ^ places ≡ 0 = omega (arith, e) in
    omega (arith, some, none, ap (λ x. x * 10 ^ places) q, div-add-mod' parts (10 ^ places)))
    (λ s. digits_last places r s (rest_lt places parts))
    (λ s. digits_some places r s (rest_lt places parts))
    (sym (ap (λ xs. get_or xs (length xs - 1) 0) (digits_step places parts some)) ∙ h)

-- digits of which the last is not zero are worth something
pub worth_some : (places : ℕ) (ds : List ℕ) → all_ascii_digits ds ≡ true → length ds ≤ places → 0 < length ds
    → get_or ds (length ds - 1) 0 ≢ 48 → 0 < digits_value 10 ds * 10 ^ (places - length ds)
worth_some places [] h le some last = absurd (omega (arith, some))
worth_some zero (c ∷ cs) h le some last = absurd (omega (arith, le))
worth_some (suc places) (c ∷ []) h le some last =
    let range : IsInRange 48 57 c = (parts_of c [] h).0 in
    let one : 1 ≤ c - 48 = omega (arith, range.0, last) in
    omega (arith, weighed_cons places c [] range (omega arith), mul-le-mul_right (10 ^ places) one, weight_above places (10 ^ places) refl)
worth_some (suc places) (c ∷ d ∷ ds) h le some last =
    let range : IsInRange 48 57 c = (parts_of c (d ∷ ds) h).0 in
    let fits : length (d ∷ ds) ≤ places = omega (arith, le) in
    let there : 0 < length (d ∷ ds) = omega arith in
    omega (
      arith,
      weighed_cons places c (d ∷ ds) range fits,
      worth_some places (d ∷ ds) (parts_of c (d ∷ ds) h).1 fits there (λ e. last (last-cons c (d ∷ ds) there ∙ e)),
    )

-- digits of which the last is not zero are what is written of their worth
pub rebuilt : (places : ℕ) (ds : List ℕ) → all_ascii_digits ds ≡ true → length ds ≤ places
    → (0 < length ds → get_or ds (length ds - 1) 0 ≢ 48) → decimal_digits places (digits_value 10 ds * 10 ^ (places - length ds)) ≡ ds
rebuilt places [] h le last =
    let none : 0 * 10 ^ (places - length {A = ℕ} []) ≡ 0 = omega arith in ap (λ x. decimal_digits places x) none ∙ digits_none places
rebuilt zero (c ∷ cs) h le last = absurd (omega (arith, le))
rebuilt (suc places) (c ∷ cs) h le last =
    let range : IsInRange 48 57 c = (parts_of c cs h).0 in
    let digits : all_ascii_digits cs ≡ true = (parts_of c cs h).1 in
    let fits : length cs ≤ places = omega (arith, le) in
    let w : ℕ = digits_value 10 cs * 10 ^ (places - length cs) in
    let p : ℕ = digits_value 10 (c ∷ cs) * 10 ^ (suc places - length (c ∷ cs)) in
    let sum : p ≡ (c - 48) * 10 ^ places + w = weighed_cons places c cs range fits in
    let below : w < 10 ^ places = below_power places (digits_value 10 cs) (length cs) (digits_value-lt 10 cs (own.to cs digits)) fits in
    let there : 0 < length (c ∷ cs) = omega arith in
    let some : 0 < p = worth_some (suc places) (c ∷ cs) h le there (last there) in
    let whole : 48 + p / 10 ^ places ≡ c = omega (arith, range.0, ap (λ x. x / 10 ^ places) sum, div-mul-add (c - 48) (10 ^ places) w below) in
    let rest : p % 10 ^ places ≡ w = ap (λ x. x % 10 ^ places) sum ∙ mod-mul-add (c - 48) (10 ^ places) w below in
    digits_step places p some
    ∙ ap (λ x. x ∷ decimal_digits places (p % 10 ^ places)) whole
    ∙ ap (λ x. c ∷ decimal_digits places x) rest
    ∙ ap (λ xs. c ∷ xs) (rebuilt places cs digits fits (λ s e. last there (last-cons c cs s ∙ e)))
