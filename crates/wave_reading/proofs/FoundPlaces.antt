-- Where a wave is read at a time: what its samples' times tell of it.
use Rattle.std.proofs.Common.{◌≡◌, ℕ, ◌+◌, ◌-◌, ◌<◌, ◌≤◌, inl, inr, Some, List, ℤ, All, length, get_or, arith, sym, ap, ◌∙◌}
use Rattle.std.specs.List.{slice_get, AllWithin}
use Rattle.std.proofs.lemmas.Bool.{cases_lt, cases_eq}
use Rattle.std.proofs.lemmas.List.{get_or-map}
use Rattle.std.proofs.lemmas.Option.{get_or_from_slice_get}
use Rattle.waveform.specs.declared.field.Field.{Field}
use Rattle.waveform.specs.declared.sample.Sample.{Sample}
use Rattle.waveform.specs.IsWave.{times, fields, last_time, first_time}
use Rattle.waveform.proofs.Places.{no_sample, Rises}

pub time_told : (wave : List Sample) (i time : ℕ) (d : Sample) → slice_get (times wave) i ≡ Some time → i < length wave → (get_or wave i d).time ≡ time
time_told wave i time d found inside =
    sym (get_or-map (λ (s : Sample). s.time) wave i d time inside) ∙ get_or_from_slice_get (times wave) i time time found

pub field_told : (wave : List Sample) (i : ℕ) (field : Field) → slice_get (fields wave) i ≡ Some field → i < length wave → (get_or wave i no_sample).field ≡ field
field_told wave i field found inside =
    sym (get_or-map (λ (s : Sample). s.field) wave i no_sample field inside) ∙ get_or_from_slice_get (fields wave) i field field found

-- one more sample before t
pub before_more : (wave : List Sample) (t i time : ℕ) → slice_get (times wave) i ≡ Some time → i < length wave → time < t → AllWithin (λ (s : Sample). s.time < t) wave 0 i
    → AllWithin (λ (s : Sample). s.time < t) wave 0 (i + 1)
before_more wave t i time found inside less before = λ k d low high.
    elim (cases_lt k i) [
      | inl below ↦ before k d low below
      | inr above ↦
          let same : k ≡ i = omega arith in
          rw same (omega (arith, less, time_told wave i time d found inside))
    ]

-- all samples from the first one at or after t on
pub later_from : (wave : List Sample) (t i : ℕ) → Rises wave → ((d : Sample) → t ≤ (get_or wave i d).time) → AllWithin (λ (s : Sample). t ≤ s.time) wave i (length wave)
later_from wave t i rising here = λ k d low high.
    elim (cases_eq i k) [
      | inl same ↦ rw (← same) (here d)
      | inr other ↦ omega (arith, here d, rising i k d (omega arith) high)
    ]

-- the last sample is at the last time
pub last_told : (wave : List Sample) (d : Sample) → 0 < length wave → (get_or wave (length wave - 1) d).time ≡ last_time wave
last_told wave d some = sym (get_or-map (λ (s : Sample). s.time) wave (length wave - 1) d 0 (omega arith))

pub first_told : (wave : List Sample) (d : Sample) → 0 < length wave → (get_or wave 0 d).time ≡ first_time wave
first_told wave d some = sym (get_or-map (λ (s : Sample). s.time) wave 0 d 0 some)

-- the values of a sample, as they are read
pub values_told : (wave : List Sample) (i : ℕ) (field : Field) (values : List ℤ) → slice_get (fields wave) i ≡ Some field → values ≡ field.values → i < length wave
    → values ≡ (get_or wave i no_sample).field.values
values_told wave i field values found is inside = is ∙ ap (λ (f : Field). f.values) (sym (field_told wave i field found inside))

pub room_told : (wave : List Sample) (i from n : ℕ) (field : Field) (values : List ℤ) → slice_get (fields wave) i ≡ Some field → values ≡ field.values → i < length wave
    → All (λ (s : Sample). from + n ≤ length s.field.values) wave → from + n ≤ length values
room_told wave i from n field values found is inside room =
    let same : length values ≡ length (get_or wave i no_sample).field.values = ap length (values_told wave i field values found is inside) in
    omega (arith, room i no_sample inside, same)
