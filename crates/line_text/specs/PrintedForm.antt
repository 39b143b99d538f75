-- The shape of a printed number. The project's own.
use Rattle.std.specs.Prelude.{◌≡◌, ◌≢◌, ℕ, ◌-◌, ◌≤◌, List, length, slice_index, ℤ, pos, IsTrue, IfSome}
use Rattle.line_text.specs.Spelling.{Spelling, Spells, units_of, decimal_places}

-- no minus before zero, no needless zero (48) in front, and at most six decimals, the last of them not zero
pub record IsShort (s : Spelling) : Type 0 where
  pub minus : IsTrue s.is_negative → units_of s ≢ pos 0
  pub front : slice_index s.whole 0 ≡ 48 → length s.whole ≡ 1
  pub places : decimal_places s ≤ 6
  pub last : IfSome s.decimals (λ text. slice_index text (length text - 1) ≢ 48)

-- the text spells the number, with such parts
abbrev pub IsShortTextOf : ℤ → List ℕ → Type 0
IsShortTextOf units text = (s : Spelling) × Spells s text × IsShort s × (units_of s ≡ units)
