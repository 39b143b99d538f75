-- Where a wave is read: at a sample, or on the lines between two. After the coupling documentation's waveforms of degree 0 and 1.
use Rattle.std.specs.Prelude.{ℕ, ◌-◌, ◌<◌, List, map, zip, slice_index_or, ℤ, length}
use Rattle.waveform.specs.declared.sample.Sample.{Sample}
use Rattle.waveform.specs.WaveValue.{component_between, values_between}
use Rattle.waveform.proofs.Places.{no_sample}
use Rattle.wave_reading.specs.declared.place.Place.{Place}
use Rattle.wave_reading.specs.declared.place.Place.TheVariants.{At, LineTo}

abbrev pub sample_of : List Sample → ℕ → Sample
sample_of wave i = slice_index_or wave i no_sample

-- the values there
abbrev pub values_at : List Sample → (t : ℕ) → Place → List ℤ
values_at wave t (At i) = (sample_of wave i).field.values
values_at wave t (LineTo i) = values_between (sample_of wave (i - 1)) (sample_of wave i) t

-- the sample is there; a line's two are, and the time lies between theirs
abbrev pub IsPlaceIn : List Sample → (t : ℕ) → Place → Type 0
IsPlaceIn wave t (At i) = i < length wave
IsPlaceIn wave t (LineTo i) =
    (0 < i) × (i < length wave) × ((sample_of wave (i - 1)).time < t) × (t < (sample_of wave i).time)

-- the values on the lines between two rows
unfoldable pub line_values : (start end t : ℕ) → (first last : List ℤ) → List ℤ
line_values start end t first last = map (λ v. component_between start end t v.0 v.1) (zip first last)
