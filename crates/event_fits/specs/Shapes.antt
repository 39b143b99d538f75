-- How long a sample of an exchange is. The project's own.
use Rattle.std.specs.Prelude.{◌≡◌, ℕ, All, length}
use Rattle.fixed_num.specs.Numbers.{IsValue}
use Rattle.waveform.specs.declared.sample.Sample.{Sample}

-- so many components at each vertex, and so many values, each of them in range
pub record IsOfLengths (components values : ℕ) (sample : Sample) : Type 0 where
  pub components_are : sample.field.components ≡ components
  pub values_are : length sample.field.values ≡ values
  pub in_range : All IsValue sample.field.values
