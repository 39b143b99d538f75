-- Tables of answers, a row for each call and a column for each phase. The project's own.
use Rattle.std.specs.Prelude.{◌≡◌, ℕ, Bool, List, Option, All, length, slice_get, option_and_then}

-- a table has a row for each call, and in each row an answer for each phase
pub record IsTable (calls phases : ℕ) (rows : List (List Bool)) : Type 0 where
  pub calls_told : length rows ≡ calls
  pub phases_told : All (λ row. length row ≡ phases) rows

-- the answer in a call's row and a phase's column, both counted from 0
abbrev pub answer_at : List (List Bool) → ℕ → ℕ → Option Bool
answer_at rows call phase = option_and_then (λ row. slice_get row phase) (slice_get rows call)
