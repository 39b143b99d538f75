-- The overflow of a mapped field, in words of vertices and components. The project's own.
use Rattle.std.specs.Prelude.{◌≡◌, ◌⊎◌, ℕ, ◌<◌}
use Rattle.fixed_num.specs.Numbers.{IsValue}
use Rattle.waveform.specs.declared.field.Field.{Field}
use Rattle.nn_mapping.specs.Mapping.{Mapping}
use Rattle.nn_mapping.specs.MappedField.{mapped_component}

-- place (w, d) comes before (v, c): vertices in order, and at each its components
abbrev pub ComesBefore : (w d v c : ℕ) → Type 0
ComesBefore w d v c = (w < v) ⊎ ((w ≡ v) × (d < c))

-- (v, c) is the first place of the targets whose sum is no Value
pub record IsFirstOverflow (m : Mapping) (field : Field) (v c : ℕ) : Type 0 where
  pub vertex : v < m.targets
  pub component : c < field.components
  pub no_value : ¬ IsValue (mapped_component m field (v, c))
  pub first : (w d : ℕ) → w < m.targets → d < field.components → ComesBefore w d v c → IsValue (mapped_component m field (w, d))
