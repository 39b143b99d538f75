-- Digits, and the number that they spell.
use Rattle.std.proofs.Common.{◌≡◌, ◌<◌, ◌^◌, ◌==◌, ◌&&◌, ℕ, Bool, true, false, true≢false, cond, refl, sym, ap, [], ◌∷◌, length, drop, ◌∙◌, nat_lt, nat_le}
use Rattle.std.specs.Char.{is_ascii_digit}
use Rattle.std.specs.Str.{all_ascii_digits}
use Rattle.std.specs.Str.Parse.{IsNumeral, digits_value, without_leading_plus}
use Rattle.std.proofs.lemmas.Bool.Decides.{Decides-eqb}
use Rattle.std.proofs.lemmas.Str.Parse.{numerals_by_value, tells_all_ascii_digits}
use Rattle.command_words.specs.Asking.{Text, is_schedule}

pub both : (a b : Bool) → (a && b) ≡ true → (a ≡ true) × (b ≡ true)
both true b h = (refl, h)
both false b h = absurd (true≢false (sym h))

-- a byte that is no digit is not the digit d
pub no_digit : (d n : ℕ) → is_ascii_digit n ≡ false → is_ascii_digit d ≡ true → (d == n) ≡ false
no_digit d n other digit = go (d == n) refl
  where
    go : (b : Bool) → (d == n) ≡ b → (d == n) ≡ false
    go false e = e
    go true e =
        let same : d ≡ n = (Decides-eqb d n).0 e in
        absurd (true≢false (sym digit ∙ ap is_ascii_digit same ∙ other))

no_plus : (text : Text) → all_ascii_digits text ≡ true → without_leading_plus text ≡ text
no_plus [] h = refl
no_plus (c ∷ cs) h = ap (λ b. drop (cond b 1 0) (c ∷ cs)) (no_digit c 43 refl (both _ _ h).0)

-- digits are a numeral, with no plus before it
pub numeral_of : (text : Text) → 0 < length text → all_ascii_digits text ≡ true
    → IsNumeral 10 text × (without_leading_plus text ≡ text)
numeral_of text some h = ((some, (numerals_by_value _ tells_all_ascii_digits).to text h), no_plus text h)

-- a schedule's text begins with a digit, and so with no dash
pub by_digits : (P : Text → Type 0) → ((d : ℕ) (ds : Text) → (d == 45) ≡ false → P (d ∷ ds))
    → (text : Text) → is_schedule text ≡ true → P text
by_digits P begin [] h = absurd (true≢false (sym h))
by_digits P begin (d ∷ ds) h =
    let some = both (nat_lt 0 (length (d ∷ ds))) (nat_le (length (d ∷ ds)) 20 && (all_ascii_digits (d ∷ ds) && nat_lt (digits_value 10 (d ∷ ds)) (2 ^ 64))) h in
    let short = both (nat_le (length (d ∷ ds)) 20) (all_ascii_digits (d ∷ ds) && nat_lt (digits_value 10 (d ∷ ds)) (2 ^ 64)) some.1 in
    let digits = (both (all_ascii_digits (d ∷ ds)) (nat_lt (digits_value 10 (d ∷ ds)) (2 ^ 64)) short.1).0 in
    begin d ds (no_digit d 45 refl (both (is_ascii_digit d) (all_ascii_digits ds) digits).0)
