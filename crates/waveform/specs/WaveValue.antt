-- What a wave's values are at a time, by its degree. From the coupling documentation's waveforms of degree 0 and 1; the rounding is this project's own.
use Rattle.std.specs.Prelude.{ℕ, ◌-◌, Option, Some, List, [], ◌∷◌, ℤ, pos, ◌+ℤ◌, ◌-ℤ◌, ◌*ℤ◌, nat_eq, nat_lt, nat_le, find, map, reverse, if◌then◌else◌}
use Rattle.std.specs.List.{zip}
use Rattle.std.specs.Option.{option_map_or}
use Rattle.fixed_num.specs.Numbers.{quotient}
use Rattle.waveform.specs.declared.sample.Sample.{Sample}

-- the sample at t, if there is one
abbrev pub sample_at : List Sample → ℕ → Option Sample
sample_at samples t = find (λ s. nat_eq s.time t) samples

-- the first sample at or after t
abbrev pub sample_from : List Sample → ℕ → Option Sample
sample_from samples t = find (λ s. nat_le t s.time) samples

-- the last sample before t
abbrev pub sample_before : List Sample → ℕ → Option Sample
sample_before samples t = find (λ s. nat_lt s.time t) (reverse samples)

-- the component at t on the line from v0 at s0 to v1 at s1, rounded
unfoldable pub component_between : (s0 s1 t : ℕ) → ℤ → ℤ → ℤ
component_between s0 s1 t v0 v1 = v0 +ℤ quotient ((v1 -ℤ v0) *ℤ pos (t - s0)) (s1 - s0)

-- all components at t between two samples
unfoldable pub values_between : Sample → Sample → ℕ → List ℤ
values_between s0 s1 t =
    map (λ v. component_between s0.time s1.time t v.0 v.1) (zip s0.field.values s1.field.values)

abbrev pub values_of : Sample → List ℤ
values_of sample = sample.field.values

-- between the neighbours, where there are two
abbrev pub between_neighbours : Option Sample → Option Sample → ℕ → List ℤ
between_neighbours (Some before) (Some after) t = values_between before after t
between_neighbours _ _ t = []

-- degree 0: the first sample at or after t
abbrev pub step_at : List Sample → ℕ → List ℤ
step_at samples t = option_map_or values_of (sample_from samples t) []

-- degree 1: the sample at t, or between the neighbours where there is none
abbrev pub line_at : List Sample → ℕ → List ℤ
line_at samples t =
    option_map_or values_of (sample_at samples t)
    (between_neighbours (sample_before samples t) (sample_from samples t) t)

-- the values of a wave at a time from its first to its last; a single sample is constant
unfoldable pub read : (samples : List Sample) (degree t : ℕ) → List ℤ
read (only ∷ []) degree t = values_of only
read samples degree t = if nat_eq degree 0 then step_at samples t else line_at samples t
