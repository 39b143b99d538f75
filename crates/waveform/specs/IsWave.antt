-- What a wave is. From the coupling documentation, where the samples of a time window make a waveform; the most samples are this project's own.
use Rattle.std.specs.Prelude.{ℕ, ◌-◌, ◌<◌, ◌≤◌, List, ℤ, length, map, slice_index, AllPairs}
use Rattle.waveform.specs.declared.wave.TheConstants.{MOST_SAMPLES}
use Rattle.waveform.specs.declared.field.Field.{Field}
use Rattle.waveform.specs.declared.sample.Sample.{Sample}
use Rattle.waveform.specs.Shape.{IsLike}

-- at least one sample and not too many, each before all later ones and of their shape
pub record IsWave (samples : List Sample) : Type 0 where
  pub least : 1 ≤ length samples
  pub most : length samples ≤ MOST_SAMPLES
  pub rising : AllPairs (λ s later. s.time < later.time) samples
  pub alike : AllPairs (λ s later. IsLike s.field later.field) samples

abbrev pub times : List Sample → List ℕ
times samples = map (λ s. s.time) samples

abbrev pub fields : List Sample → List Field
fields samples = map (λ s. s.field) samples

-- the values of the samples' fields
abbrev pub value_lists : List Sample → List (List ℤ)
value_lists samples = map (λ s. s.field.values) samples

abbrev pub first_time : List Sample → ℕ
first_time samples = slice_index (times samples) 0

abbrev pub last_time : List Sample → ℕ
last_time samples = slice_index (times samples) (length samples - 1)
