-- The text of a number of millionths. The project's own.
use Rattle.std.specs.Prelude.{ℕ, zero, suc, ◌+◌, ◌/◌, ◌%◌, ◌^◌, if◌then◌else◌, ◌==◌, true, false, List, [], ◌∷◌, ℤ, pos, negsuc, Option, Some, None, decimal}
use Rattle.line_text.specs.Spelling.{Spelling, text_of}

-- the digits of so many parts of 10^places, until nothing is left
unfoldable pub decimal_digits : ℕ → ℕ → List ℕ
decimal_digits zero parts = []
decimal_digits (suc places) parts =
    if parts == 0 then [] else (48 + parts / 10 ^ places) ∷ decimal_digits places (parts % 10 ^ places)

-- the decimals of so many millionths: none, and no point, where nothing is left of them
abbrev pub decimals_of : ℕ → Option (List ℕ)
decimals_of parts = if parts == 0 then None else Some (decimal_digits 6 parts)

-- the whole part and the decimals of a number of millionths
abbrev pub spelling_of : ℤ → Spelling
spelling_of (pos n) = record { is_negative = false; whole = decimal (n / 10 ^ 6); decimals = decimals_of (n % 10 ^ 6) }
spelling_of (negsuc n) = record { is_negative = true; whole = decimal (suc n / 10 ^ 6); decimals = decimals_of (suc n % 10 ^ 6) }

-- sign, whole part, and, where the rest is not zero, a point and its digits without trailing zeros
unfoldable pub value_text : ℤ → List ℕ
value_text units = text_of (spelling_of units)
