-- The first value of some waves that is out of range. The project's own: exchanges come first, then times, then components.
use Rattle.std.specs.Prelude.{ℕ, Option, List, not, ℤ, map, find}
use Rattle.std.specs.List.{enumerate_from, flat_map}
use Rattle.std.specs.Option.{option_map}
use Rattle.fixed_num.specs.Numbers.{is_value}
use Rattle.waveform.specs.declared.sample.Sample.{Sample}

-- where a value stands: the place of its wave, its time and its place in the whole field
pub record Location : Type 0 where
  pub place : ℕ
  pub time : ℕ
  pub component : ℕ

-- the values of a field at a time, each beside where it stands
abbrev pub located_values : (place time : ℕ) → List ℤ → List (Location × ℤ)
located_values place time values =
    map
    (λ v. (record { place = place; time = time; component = v.0 }, v.1))
    (enumerate_from 0 values)

abbrev pub located_sample : ℕ → Sample → List (Location × ℤ)
located_sample place sample = located_values place sample.time sample.field.values

-- those of a wave, by rising time
abbrev pub located_wave : ℕ → List Sample → List (Location × ℤ)
located_wave place samples = flat_map (located_sample place) samples

-- those of all waves, in order
abbrev pub located : List (List Sample) → List (Location × ℤ)
located waves = flat_map (λ w. located_wave w.0 w.1) (enumerate_from 0 waves)

-- where the first of them stands that is no Value
unfoldable pub first_outside : List (Location × ℤ) → Option Location
first_outside locations = option_map (λ v. v.0) (find (λ v. not (is_value v.1)) locations)
