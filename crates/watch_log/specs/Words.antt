-- The words of which lines are put together: names, numbers, values. The project's own.
use Rattle.std.specs.Prelude.{ℕ, suc, List, [], ◌∷◌, ◌++◌, ℤ, slice_get, decimal, codes}
use Rattle.std.specs.Option.{option_map_or}
use Rattle.line_text.specs.Printing.{value_text}
use Rattle.cpl_plan.specs.declared.parts.PlanParts.{PlanParts}

abbrev pub line_feed : List ℕ
line_feed = 10 ∷ []

-- a word and a number
abbrev pub numbered : List ℕ → ℕ → List ℕ
numbered word number = word ++ decimal number

-- a word and a number that counts from 1, of a place from 0
abbrev pub counted : List ℕ → (place : ℕ) → List ℕ
counted word place = numbered word (suc place)

-- a blank and a value, as millionths are printed
abbrev pub value_part : ℤ → List ℕ
value_part units = 32 ∷ value_text units

-- in which window and iteration
abbrev pub turn_text : (window iteration : ℕ) → List ℕ
turn_text window iteration = numbered (codes " window ") window ++ numbered (codes " iteration ") iteration

abbrev pub participant_name : PlanParts → (part : ℕ) → List ℕ
participant_name plan part = option_map_or (λ p. p.name) (slice_get plan.parts part) []
