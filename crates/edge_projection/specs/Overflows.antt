-- The overflow of a mapped field, in words of vertices and components. The project's own.
use Rattle.std.specs.Prelude.{ℕ, ◌<◌}
use Rattle.fixed_num.specs.Numbers.{IsValue}
use Rattle.waveform.specs.declared.field.Field.{Field}
use Rattle.edge_projection.specs.Places.{ComesBefore}
use Rattle.edge_projection.specs.EdgeMapping.{EdgeMapping}
use Rattle.edge_projection.specs.MappedField.{mapped_component}

-- (v, c) is the first place of the targets whose sum is no Value
pub record IsFirstOverflow (m : EdgeMapping) (field : Field) (v c : ℕ) : Type 0 where
  pub vertex : v < m.targets
  pub component : c < field.components
  pub no_value : ¬ IsValue (mapped_component m field (v, c))
  pub first : (w d : ℕ) → w < m.targets → d < field.components → ComesBefore w d v c → IsValue (mapped_component m field (w, d))
