-- What it means that a value lies between two others, and the components of samples. The project's own.
use Rattle.std.specs.Prelude.{ℕ, ◌⊎◌, List, [], ℤ, pos, ◌≤ℤ◌, slice_index_or}
use Rattle.waveform.specs.declared.sample.Sample.{Sample}
use Rattle.waveform.specs.IsWave.{value_lists}

-- x is no lower than one of the two and no higher than the other
abbrev pub IsBetween : (a b x : ℤ) → Type 0
IsBetween a b x = ((a ≤ℤ x) × (x ≤ℤ b)) ⊎ ((b ≤ℤ x) × (x ≤ℤ a))

-- component k of sample i
abbrev pub component_of : List Sample → ℕ → ℕ → ℤ
component_of samples i k = slice_index_or (slice_index_or (value_lists samples) i []) k (pos 0)
