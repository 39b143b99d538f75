-- Fields of one shape. The project's own.
use Rattle.std.specs.Prelude.{◌≡◌, length}
use Rattle.waveform.specs.declared.field.Field.{Field}

-- as many components each vertex, and as many values
pub record IsLike (a b : Field) : Type 0 where
  pub components : a.components ≡ b.components
  pub len : length a.values ≡ length b.values
