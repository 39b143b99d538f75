-- The components of a state, and the values of a list of inputs, by their index. The project's own.
use Rattle.std.specs.Prelude.{ℕ, List, ℤ, pos, slice_index_or}

-- component i, or 0 past the end
abbrev pub component : List ℤ → ℕ → ℤ
component values i = slice_index_or values i (pos 0)
