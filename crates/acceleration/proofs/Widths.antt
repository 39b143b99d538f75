-- How many values waves have at one time, and what a wave has at its ends.
use Rattle.std.proofs.Common.{◌≡◌, ◌⊎◌, inl, inr, All, ℕ, ◌-◌, ◌<◌, ◌≤◌, Some, List, [], length, get_or, ℤ, arith, sym, ap, ◌∙◌}
use Rattle.std.specs.List.{slice_get}
use Rattle.std.proofs.lemmas.Bool.{cases_lt}
use Rattle.std.proofs.lemmas.List.{get_or-map, length-map}
use Rattle.std.proofs.lemmas.Option.{get_or_from_slice_get, slice_get_within}
use Rattle.waveform.specs.declared.field.Field.{Field}
use Rattle.waveform.specs.declared.sample.Sample.{Sample}
use Rattle.waveform.specs.IsWave.{fields, value_lists, times}
use Rattle.waveform.specs.IsWave.{IsWave, first_time, last_time}
use Rattle.acceleration.specs.Exchanged.{exchange_of, IsAlike, Covers}
use Rattle.acceleration.specs.Residual.{end_values, width}

-- what stands past the end of a list
abbrev pub no_sample : Sample
no_sample = record { time = 0; field = record { components = 0; values = [] } }

-- the field of sample i
pub field_at : (samples : List Sample) (i : ℕ) (field : Field) → slice_get (fields samples) i ≡ Some field → (get_or samples i no_sample).field ≡ field
field_at samples i field found =
    let inside : i < length samples = rw (length-map samples (λ (s : Sample). s.field)) at (slice_get_within (fields samples) i field found) in
    sym (get_or-map (λ (s : Sample). s.field) samples i no_sample field inside) ∙ get_or_from_slice_get (fields samples) i field field found

-- the time of sample i
pub time_at : (samples : List Sample) (i t : ℕ) → slice_get (times samples) i ≡ Some t → (get_or samples i no_sample).time ≡ t
time_at samples i t found =
    let inside : i < length samples = rw (length-map samples (λ (s : Sample). s.time)) at (slice_get_within (times samples) i t found) in
    sym (get_or-map (λ (s : Sample). s.time) samples i no_sample t inside) ∙ get_or_from_slice_get (times samples) i t t found

-- the values at the end are those of the last field
pub end_values-last : (samples : List Sample) (last : ℕ) (field : Field) → last ≡ length samples - 1 → slice_get (fields samples) last ≡ Some field → end_values samples ≡ field.values
end_values-last samples last field is found =
    let inside : last < length samples = rw (length-map samples (λ (s : Sample). s.field)) at (slice_get_within (fields samples) last field found) in
    ap (λ (n : ℕ). get_or (value_lists samples) n []) (sym is)
    ∙ get_or-map (λ (s : Sample). s.field.values) samples last no_sample [] inside
    ∙ ap (λ (f : Field). f.values) (field_at samples last field found)

-- what was read has as many values as what was posted
pub width_of_taken : (degree : ℕ) (taken posted : List Sample) → 1 ≤ length posted → IsAlike (exchange_of degree taken posted) → All (λ (s : Sample). length s.field.values ≡ width posted) taken
width_of_taken degree taken posted least alike = λ k d inside.
    let last : length posted - 1 < length posted = omega arith in
    let same = (alike k d inside (length posted - 1) no_sample last).len in
    same ∙ ap (λ (values : List ℤ). length values) (sym (get_or-map (λ (s : Sample). s.field.values) posted (length posted - 1) no_sample [] last))

-- each posted field has as many values as the last one
pub width_of_posted : (posted : List Sample) (i : ℕ) → IsWave posted → i < length posted → length (get_or posted i no_sample).field.values ≡ width posted
width_of_posted posted i wave inside =
    let last : length posted - 1 < length posted = omega (arith, wave.least) in
    let is = ap (λ (values : List ℤ). length values) (get_or-map (λ (s : Sample). s.field.values) posted (length posted - 1) no_sample [] last) in
    elim (cases_lt i (length posted - 1)) [
      | inl before ↦ (wave.alike i (length posted - 1) no_sample before last).len ∙ sym is
      | inr past ↦
          let here : i ≡ length posted - 1 = omega (arith, inside) in
          ap (λ (n : ℕ). length (get_or posted n no_sample).field.values) here ∙ sym is
    ]

-- what was read has a value at the time of a posted sample
pub covered_at : (degree : ℕ) (taken posted : List Sample) (i t : ℕ) → Covers (exchange_of degree taken posted) → i < length posted → (get_or posted i no_sample).time ≡ t
    → (length taken ≡ 1) ⊎ ((first_time taken ≤ t) × (t ≤ last_time taken))
covered_at degree taken posted i t (inl one) inside at = inl one
covered_at degree taken posted i t (inr all) inside at =
    let here = all i no_sample inside in
    inr (omega (arith, here, at), omega (arith, here, at))

-- a posted wave ends at the time of its last sample
pub last_time-is : (samples : List Sample) (last t : ℕ) → last ≡ length samples - 1 → slice_get (times samples) last ≡ Some t → last_time samples ≡ t
last_time-is samples last t is found = ap (λ (n : ℕ). get_or (times samples) n 0) (sym is) ∙ get_or_from_slice_get (times samples) last t 0 found
