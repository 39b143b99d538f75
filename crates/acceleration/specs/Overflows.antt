-- The first overflow of some waves, in words of waves, samples and components. The project's own.
use Rattle.std.specs.Prelude.{◌≡◌, ℕ, ◌<◌, List, [], ℤ, pos, All, length, take, slice_index, slice_index_or}
use Rattle.fixed_num.specs.Numbers.{IsValue}
use Rattle.waveform.specs.declared.sample.Sample.{Sample}
use Rattle.waveform.specs.IsWave.{times, value_lists}
use Rattle.acceleration.specs.Outside.{Location}

-- all values of a sample are Values
abbrev pub IsInRange : Sample → Type 0
IsInRange sample = All IsValue sample.field.values

-- the wave at a place, and the values of a sample of a wave
abbrev pub wave_at : List (List Sample) → ℕ → List Sample
wave_at waves place = slice_index_or waves place []

abbrev pub values_at : List Sample → ℕ → List ℤ
values_at wave sample = slice_index_or (value_lists wave) sample []

-- component k is the first of these values that is no Value
pub record IsFirstOutside (values : List ℤ) (k : ℕ) : Type 0 where
  pub inside : k < length values
  pub no_value : ¬ IsValue (slice_index_or values k (pos 0))
  pub earlier : All IsValue (take k values)

-- what stands at the location is no Value, and every value of an earlier wave, of an earlier sample of its wave and of an earlier component is one
pub record IsFirstOverflow (waves : List (List Sample)) (at : Location) : Type 0 where
  -- the place of the sample in its wave
  pub sample : ℕ
  pub wave_inside : at.place < length waves
  pub sample_inside : sample < length (wave_at waves at.place)
  pub at_time : slice_index (times (wave_at waves at.place)) sample ≡ at.time
  pub at_component : IsFirstOutside (values_at (wave_at waves at.place) sample) at.component
  pub earlier_samples : All IsInRange (take sample (wave_at waves at.place))
  pub earlier_waves : All (All IsInRange) (take at.place waves)
