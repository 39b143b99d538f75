-- What a participant reads in a window, from the values that its partner has given, the initial one first. After the
-- coupling documentation's serial-explicit scheme: the first reads the second's window before, the second the first's
-- same window.
use Rattle.std.specs.Prelude.{ℕ, ◌-◌, ◌==◌, if◌then◌else◌, List, ℤ, pos, Option, option_map}
use Rattle.std.specs.List.{slice_get, slice_index_or}

-- an input over a window: its value at the start and its value at the end
pub record InputWave : Type 0 where
  pub at_start : ℤ
  pub at_end : ℤ

-- the value accepted at the end of the window before, over all of the window
abbrev pub lag : List ℤ → ℕ → Option InputWave
lag given window = option_map (λ value. record { at_start = value; at_end = value }) (slice_get given (window - 1))

-- from that value to the one accepted at the end of this window
abbrev pub fresh : List ℤ → ℕ → Option InputWave
fresh given window =
    option_map (λ value. record { at_start = slice_index_or given (window - 1) (pos 0); at_end = value })
    (slice_get given window)

-- the input of participant 0, the first, or 1; None where the partner has not given what it needs
abbrev pub input_wave : ℕ → List ℤ → ℕ → Option InputWave
input_wave participant given window = if participant == 0 then lag given window else fresh given window
