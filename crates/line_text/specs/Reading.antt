-- The number that a text means, or why it means none. The project's own.
use Rattle.std.specs.Prelude.{ℕ, ◌+◌, ◌^◌, Bool, if◌then◌else◌, List, length, drop, slice_index, nat_lt, ◌==◌, ℤ, position, option_map, Option, Result, Ok, Err}
use Rattle.std.specs.List.{before_first}
use Rattle.line_text.specs.Spelling.{Spelling, is_number, decimal_places, magnitude, units_of}
use Rattle.line_text.specs.declared.error.NumErr.{NumErr}
use Rattle.line_text.specs.declared.error.NumErr.TheVariants.{Empty, Digit, TooManyDecimals, Range}

-- a point: its code is 46
abbrev pub is_point : ℕ → Bool
is_point c = c == 46

-- a minus stands in front: its code is 45
abbrev pub has_minus : List ℕ → Bool
has_minus text = slice_index text 0 == 45

-- what stands after the minus, where there is one
abbrev pub without_minus : List ℕ → List ℕ
without_minus text = if has_minus text then drop 1 text else text

-- what stands after the first point, where there is one
abbrev pub after_point : List ℕ → Option (List ℕ)
after_point text = option_map (λ i. drop (i + 1) text) (position is_point text)

-- the parts of any text: a minus in front, what stands before the first point, and what stands after it
unfoldable pub spelling_in : List ℕ → Spelling
spelling_in text = record {
  is_negative = has_minus text;
  whole = before_first is_point (without_minus text);
  decimals = after_point (without_minus text);
}

-- the number that the parts mean, in millionths, or the first thing that is wrong with it
abbrev pub value_of : Spelling → Result ℤ NumErr
value_of s =
    if nat_lt 6 (decimal_places s) then Err TooManyDecimals
    else if nat_lt (10 ^ 13) (magnitude s) then Err Range
    else Ok (units_of s)

-- the number that a text means, in millionths, or the first thing that is wrong with it
unfoldable pub reading : List ℕ → Result ℤ NumErr
reading text =
    if length text == 0 then Err Empty
    else if is_number (spelling_in text) then value_of (spelling_in text)
    else Err Digit
