-- The residual of an iteration. From the coupling documentation's fixed-point iteration; that it looks at the end of the window alone is the project's own.
use Rattle.std.specs.Prelude.{ℕ, ◌-◌, List, [], ℤ, ◌-ℤ◌, length, map, slice_index_or}
use Rattle.std.specs.List.{zip, flat_map}
use Rattle.waveform.specs.declared.sample.Sample.{Sample}
use Rattle.waveform.specs.IsWave.{value_lists, last_time}
use Rattle.waveform.specs.WaveValue.{read}
use Rattle.acceleration.specs.Exchanged.{Exchanged}

-- a less b, entry by entry
unfoldable pub less : List ℤ → List ℤ → List ℤ
less a b = map (λ v. v.0 -ℤ v.1) (zip a b)

-- the values at the end of a wave
abbrev pub end_values : List Sample → List ℤ
end_values samples = slice_index_or (value_lists samples) (length samples - 1) []

-- how many values a wave has at one time
abbrev pub width : List Sample → ℕ
width samples = length (end_values samples)

-- what was posted at the window's end, less what was read there
abbrev pub end_difference : Exchanged → List ℤ
end_difference e = less (end_values e.posted) (read e.taken e.degree (last_time e.posted))

-- all of it, over the exchanges in order
abbrev pub residual : List Exchanged → List ℤ
residual exchanges = flat_map end_difference exchanges
