-- How a number is spelled, and what the spelling means. The project's own.
use Rattle.std.specs.Prelude.{◌≡◌, ℕ, ◌+◌, ◌-◌, ◌*◌, ◌^◌, Bool, true, ◌&&◌, if◌then◌else◌, List, [], ◌++◌, length, nat_lt, ℤ, pos, neg_ℤ, Option, Some, None, unwrap_or, codes, IsTrue}
use Rattle.std.specs.Str.{all_ascii_digits}
use Rattle.std.specs.Str.Parse.{digits_value}

-- the parts of a number's text: a minus or none, whole digits, and the decimals where there is a point
pub record Spelling : Type 0 where
  pub is_negative : Bool
  pub whole : List ℕ
  pub decimals : Option (List ℕ)

-- one digit or more
abbrev pub is_digits : List ℕ → Bool
is_digits text = nat_lt 0 (length text) && all_ascii_digits text

-- no point, or digits after it
abbrev pub are_decimals : Option (List ℕ) → Bool
are_decimals None = true
are_decimals (Some text) = is_digits text

-- the parts are those of a number
abbrev pub is_number : Spelling → Bool
is_number s = is_digits s.whole && are_decimals s.decimals

-- the point and what stands after it
abbrev pub point_text : Option (List ℕ) → List ℕ
point_text None = []
point_text (Some text) = codes "." ++ text

-- the parts in a row
unfoldable pub text_of : Spelling → List ℕ
text_of s = (if s.is_negative then codes "-" else []) ++ (s.whole ++ point_text s.decimals)

-- the text is a number's, -?[0-9]+(\.[0-9]+)?, and these are its parts
pub record Spells (s : Spelling) (text : List ℕ) : Type 0 where
  pub number : IsTrue (is_number s)
  pub parts : text ≡ text_of s

-- how many digits stand after the point
abbrev pub decimal_places : Spelling → ℕ
decimal_places s = length (unwrap_or s.decimals [])

-- the millionths that digits spell before and after a point, at most six after it
abbrev pub parts_magnitude : List ℕ → List ℕ → ℕ
parts_magnitude whole decimals =
    digits_value 10 whole * 10 ^ 6 + digits_value 10 decimals * 10 ^ (6 - length decimals)

-- the number without its sign, in millionths
abbrev pub magnitude : Spelling → ℕ
magnitude s = parts_magnitude s.whole (unwrap_or s.decimals [])

-- the number in millionths
abbrev pub units_of : Spelling → ℤ
units_of s = if s.is_negative then neg_ℤ (pos (magnitude s)) else pos (magnitude s)
