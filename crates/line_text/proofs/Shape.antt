-- The printed form: each number's text has it, reads back, and is the number's only text of that form.
use Rattle.std.proofs.Common.{◌≡◌, ◌≢◌, ℕ, zero, suc, ◌+◌, ◌-◌, ◌*◌, ◌/◌, ◌%◌, ◌^◌, ◌<◌, ◌≤◌, Bool, true, false, ◌&&◌, List, [], ◌∷◌, length, length-append, get_or, ℤ, pos, negsuc, neg_ℤ, unsigned_abs, Option, Some, None, unwrap_or, nat_lt, IfSome, Ok, decimal, refl, sym, ◌∙◌, ap, subst, arith, lit<, if◌then◌else◌}
use Rattle.std.proofs.Math.ListN.{get_or-append}
use Rattle.std.proofs.lemmas.Bool.{ne_eqb, ltb-true, false≢true}
use Rattle.std.proofs.lemmas.Fmt.{decimal_digit, decimal_is_IsNumeral_wide, decimal_by_steps_wide}
use Rattle.std.proofs.lemmas.Nat.{mod_below, div-add-mod', div-mul-add, mod-mul-add}
use Rattle.std.specs.Str.{all_ascii_digits}
use Rattle.std.specs.Str.Parse.{digits_value}
use Rattle.fixed_num.specs.Numbers.{IsValue}
use Rattle.line_text.proofs.Decimals.{digits_none, digits_all, digits_len, digits_some, digits_write, digits_last, worth_some, rebuilt}
use Rattle.line_text.proofs.Digits.{own, all_from, all_decimals, digits_from, decimals-lt}
use Rattle.line_text.proofs.Meanings.{size, reads_small}
use Rattle.line_text.proofs.Parts.{number_parts}
use Rattle.line_text.proofs.WholeParts.{decimal_again}
use Rattle.line_text.specs.PrintedForm.{IsShort, IsShortTextOf}
use Rattle.line_text.specs.Printing.{decimal_digits, decimals_of, spelling_of, value_text}
use Rattle.line_text.specs.Reading.{reading}
use Rattle.line_text.specs.Spelling.{Spelling, Spells, text_of, is_digits, are_decimals, is_number, decimal_places, magnitude, units_of}

-- the parts of a printed number by its sign and size
abbrev pub printed : Bool → ℕ → Spelling
printed b n = record { is_negative = b; whole = decimal (n / 10 ^ 6); decimals = decimals_of (n % 10 ^ 6) }

-- the whole part of any number that the code prints has at most sixty-four digits
whole_lt : (n : ℕ) → n < 10 ^ 64 → n / 10 ^ 6 < 10 ^ 64
whole_lt n lt = omega (arith, lt, div-add-mod' n (10 ^ 6))

rest_lt : (n : ℕ) → n % 10 ^ 6 < 10 ^ 6
rest_lt n = mod_below n (10 ^ 6) (lit< tt)

whole_digits : (n : ℕ) → n < 10 ^ 64 → is_digits (decimal n) ≡ true
whole_digits n lt =
    digits_from (decimal n) (decimal_is_IsNumeral_wide n lt).0.0 (own.from (decimal n) (decimal_is_IsNumeral_wide n lt).0.1)

-- where something is left of the number
decimals_some : (n : ℕ) → 0 < n → decimals_of n ≡ Some (decimal_digits 6 n)
decimals_some n some = ap (λ b. if b then None else Some (decimal_digits 6 n)) (ne_eqb n 0 (λ e. omega (arith, e, some)))

decimals_text : (n : ℕ) → unwrap_or (decimals_of n) [] ≡ decimal_digits 6 n
decimals_text zero = sym (digits_none 6)
decimals_text (suc n) = ap (λ o. unwrap_or o []) (decimals_some (suc n) (omega arith))

decimals_number : (n : ℕ) → n < 10 ^ 6 → are_decimals (decimals_of n) ≡ true
decimals_number zero lt = refl
decimals_number (suc n) lt =
    let there : 0 < suc n = omega arith in
    ap are_decimals (decimals_some (suc n) there)
    ∙ digits_from (decimal_digits 6 (suc n)) (digits_some 6 (suc n) there lt) (digits_all 6 (suc n) lt)

both_left : (a b : Bool) → (a && b) ≡ true → a ≡ true
both_left true b h = refl
both_left false b h = h

both_true : (a b : Bool) → a ≡ true → b ≡ true → (a && b) ≡ true
both_true a b ea eb = ap (λ x. x && b) ea ∙ eb

pub printed_number : (b : Bool) (n : ℕ) → n < 10 ^ 64 → is_number (printed b n) ≡ true
printed_number b n lt =
    both_true (is_digits (decimal (n / 10 ^ 6))) (are_decimals (decimals_of (n % 10 ^ 6)))
    (whole_digits (n / 10 ^ 6) (whole_lt n lt))
    (decimals_number (n % 10 ^ 6) (rest_lt n))

pub printed_magnitude : (b : Bool) (n : ℕ) → n < 10 ^ 64 → magnitude (printed b n) ≡ n
printed_magnitude b n lt =
    ap (λ ds. digits_value 10 (decimal (n / 10 ^ 6)) * 10 ^ 6 + digits_value 10 ds * 10 ^ (6 - length ds)) (decimals_text (n % 10 ^ 6))
    ∙ omega (arith, (decimal_is_IsNumeral_wide (n / 10 ^ 6) (whole_lt n lt)).1, digits_write 6 (n % 10 ^ 6) (rest_lt n), div-add-mod' n (10 ^ 6))

pub printed_places : (b : Bool) (n : ℕ) → decimal_places (printed b n) ≤ 6
printed_places b n = omega (arith, ap length (decimals_text (n % 10 ^ 6)), digits_len 6 (n % 10 ^ 6))

-- the same of a number with its sign
number_of : (units : ℤ) → unsigned_abs units < 10 ^ 64 → is_number (spelling_of units) ≡ true
number_of (pos n) lt = printed_number false n lt
number_of (negsuc n) lt = printed_number true (suc n) lt

units_again : (units : ℤ) → unsigned_abs units < 10 ^ 64 → units_of (spelling_of units) ≡ units
units_again (pos n) lt = ap pos (printed_magnitude false n lt)
units_again (negsuc n) lt = ap (λ m. neg_ℤ (pos m)) (printed_magnitude true (suc n) lt)

places_of : (units : ℤ) → decimal_places (spelling_of units) ≤ 6
places_of (pos n) = printed_places false n
places_of (negsuc n) = printed_places true (suc n)

spells_printed : (units : ℤ) → unsigned_abs units < 10 ^ 64 → Spells (spelling_of units) (value_text units)
unfolding value_text
spells_printed units lt = record { number = number_of units lt; parts = refl }

-- what is printed reads back
pub reads_back : (units : ℤ) → IsValue units → reading (value_text units) ≡ Ok units
reads_back units small =
    let lt : unsigned_abs units < 10 ^ 64 = omega (arith, small) in
    let same : units_of (spelling_of units) ≡ units = units_again units lt in
    reads_small (spelling_of units) (value_text units) (spells_printed units lt) (places_of units) (subst IsValue (sym same) small)
    ∙ ap Ok same

-- the first digit of a whole part is not a needless zero
front : (n : ℕ) → n < 10 ^ 64 → (0 < length (decimal n)) × (0 < n → 48 < get_or (decimal n) 0 0)
front =
    decimal_by_steps_wide (λ n ds. (0 < length ds) × (0 < n → 48 < get_or ds 0 0))
    (λ n lt. (omega arith, λ some. omega (arith, some)))
    (λ n ds le h. (
      omega (arith, length-append ds ((48 + n % 10) ∷ [])),
      λ some. omega (arith, get_or-append ds ((48 + n % 10) ∷ []) 0 0 h.0, h.1 (omega (arith, le, div-add-mod' n 10, mod_below n 10 (lit< tt)))),
    ))

no_needless : (n : ℕ) → n < 10 ^ 64 → get_or (decimal n) 0 0 ≡ 48 → length (decimal n) ≡ 1
no_needless zero lt e = ap length (decimal_digit 0 (lit< tt))
no_needless (suc n) lt e = absurd (omega (arith, e, (front (suc n) lt).1 (omega arith)))

last_of : (n : ℕ) → n < 10 ^ 6 → IfSome (decimals_of n) (λ text. get_or text (length text - 1) 0 ≢ 48)
last_of zero lt = tt
last_of (suc n) lt =
    let there : 0 < suc n = omega arith in
    let P : Option (List ℕ) → Type 0 = λ o. IfSome o (λ text. get_or text (length text - 1) 0 ≢ 48) in
    subst P (sym (decimals_some (suc n) there)) (digits_last 6 (suc n) there lt)

negsuc_not : (n : ℕ) → negsuc n ≢ pos 0
negsuc_not n h = cc

-- a printed number's parts have the printed form
printed_short : (b : Bool) (n : ℕ) → n < 10 ^ 64 → (b ≡ true → units_of (printed b n) ≢ pos 0) → IsShort (printed b n)
printed_short b n lt sign =
    record {
      minus = sign;
      front = no_needless (n / 10 ^ 6) (whole_lt n lt);
      places = printed_places b n;
      last = last_of (n % 10 ^ 6) (rest_lt n);
    }

short_of : (units : ℤ) → unsigned_abs units < 10 ^ 64 → IsShort (spelling_of units)
short_of (pos n) lt = printed_short false n lt (λ e. absurd (false≢true e))
short_of (negsuc n) lt = printed_short true (suc n) lt (λ _ e. negsuc_not n (sym (units_again (negsuc n) lt) ∙ e))

pub has_form : (units : ℤ) → unsigned_abs units ≤ 2 ^ 127 → IsShortTextOf units (value_text units)
has_form units small =
    let lt : unsigned_abs units < 10 ^ 64 = omega (arith, small) in
    (spelling_of units, spells_printed units lt, short_of units lt, units_again units lt)

-- the decimals of a short spelling are what is written of them
decimals_again : (o : Option (List ℕ)) → are_decimals o ≡ true → length (unwrap_or o []) ≤ 6
    → IfSome o (λ text. get_or text (length text - 1) 0 ≢ 48)
    → decimals_of (digits_value 10 (unwrap_or o []) * 10 ^ (6 - length (unwrap_or o []))) ≡ o
decimals_again None h le last = refl
decimals_again (Some ds) h le last =
    let digits : all_ascii_digits ds ≡ true = all_from ds h in
    let there : 0 < length ds = ltb-true 0 (length ds) (both_left (nat_lt 0 (length ds)) (all_ascii_digits ds) h) in
    decimals_some (digits_value 10 ds * 10 ^ (6 - length ds)) (worth_some 6 ds digits le there last)
    ∙ ap Some (rebuilt 6 ds digits le (λ _. last))

-- a short spelling is what is printed of its number
short_printed : (s : Spelling) → is_number s ≡ true → IsShort s → magnitude s < 10 ^ 64 → printed s.is_negative (magnitude s) ≡ s
short_printed s number short small =
    let ds : List ℕ = unwrap_or s.decimals [] in
    let w : ℕ = digits_value 10 s.whole in
    let p : ℕ = digits_value 10 ds * 10 ^ (6 - length ds) in
    let parts : (is_digits s.whole ≡ true) × (are_decimals s.decimals ≡ true) = number_parts s number in
    let below : p < 10 ^ 6 = decimals-lt ds (all_decimals s.decimals parts.1) short.places in
    let whole_is : magnitude s / 10 ^ 6 ≡ w = div-mul-add w (10 ^ 6) p below in
    let rest_is : magnitude s % 10 ^ 6 ≡ p = mod-mul-add w (10 ^ 6) p below in
    let there : 0 < length s.whole = ltb-true 0 (length s.whole) (both_left (nat_lt 0 (length s.whole)) (all_ascii_digits s.whole) parts.0) in
    let w_small : w < 10 ^ 64 = omega (arith, small) in
    ap (λ x. let t : Spelling = record { is_negative = s.is_negative; whole = x; decimals = decimals_of (magnitude s % 10 ^ 6) } in t)
    (ap decimal whole_is ∙ decimal_again s.whole (own.to s.whole (all_from s.whole parts.0)) there short.front w_small)
    ∙ ap (λ x. let t : Spelling = record { is_negative = s.is_negative; whole = s.whole; decimals = x } in t)
    (ap decimals_of rest_is ∙ decimals_again s.decimals parts.1 short.places short.last)

-- the parts that are printed of a number by its sign and size
by_sign : (b : Bool) (m : ℕ) → (b ≡ true → (if b then neg_ℤ (pos m) else pos m) ≢ pos 0)
    → spelling_of (if b then neg_ℤ (pos m) else pos m) ≡ printed b m
by_sign false m h = refl
by_sign true zero h = absurd (h refl refl)
by_sign true (suc m) h = refl

-- a short text of a number is the one that is printed of it
pub only_text : (units : ℤ) (text : List ℕ) → unsigned_abs units ≤ 2 ^ 127 → IsShortTextOf units text → text ≡ value_text units
unfolding value_text
only_text units text small form =
    let s : Spelling = form.0 in
    let magnitude_is : unsigned_abs (units_of s) ≡ magnitude s = size s.is_negative (magnitude s) in
    let lt : magnitude s < 10 ^ 64 = omega (arith, small, sym magnitude_is ∙ ap unsigned_abs form.3) in
    form.1.parts
    ∙ ap text_of (sym (short_printed s form.1.number form.2 lt) ∙ sym (by_sign s.is_negative (magnitude s) form.2.minus) ∙ ap spelling_of form.3)
