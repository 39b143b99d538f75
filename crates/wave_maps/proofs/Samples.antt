-- A sample of a wave, as its time and its field tell it, and why it is not mapped.
use Rattle.std.proofs.Common.{◌≡◌, ℕ, ◌<◌, Some, Ok, Err, List, length, get_or, rules, sym, ap, ◌∙◌}
use Rattle.std.specs.List.{slice_get}
use Rattle.std.proofs.lemmas.List.{get_or-map}
use Rattle.std.proofs.lemmas.Option.{get_or_from_slice_get}
use Rattle.waveform.specs.declared.field.Field.{Field}
use Rattle.waveform.specs.declared.sample.Sample.{Sample}
use Rattle.waveform.specs.IsWave.{times, fields}
use Rattle.waveform.proofs.Places.{no_sample}
use Rattle.wave_coupling.specs.Mapped.{with_field}
use Rattle.wave_maps.specs.declared.wave_map.WaveMap.{WaveMap}
use Rattle.wave_maps.specs.declared.map_errors.FieldRefusal.{FieldRefusal}
use Rattle.wave_maps.specs.declared.map_errors.FieldRefusal.TheVariants.{OutOfRange, Memory}
use Rattle.wave_maps.specs.MappedThrough.{mapped_with, mapped_at}
use Rattle.wave_maps.specs.Refusals.{wave_refusal_at, IsFieldCause, IsSampleCause}

pub field_is : (wave : List Sample) (i : ℕ) (field : Field) → slice_get (fields wave) i ≡ Some field → i < length wave → (get_or wave i no_sample).field ≡ field
field_is wave i field found inside =
    sym (get_or-map (λ (s : Sample). s.field) wave i no_sample field inside) ∙ get_or_from_slice_get (fields wave) i field field found

pub time_is : (wave : List Sample) (i time : ℕ) → slice_get (times wave) i ≡ Some time → i < length wave → (get_or wave i no_sample).time ≡ time
time_is wave i time found inside =
    sym (get_or-map (λ (s : Sample). s.time) wave i no_sample time inside) ∙ get_or_from_slice_get (times wave) i time time found

pub sample_mapped : (m : WaveMap) (s : Sample) (field mapped : Field) → s.field ≡ field → mapped_with m field ≡ Ok mapped
    → mapped_at m s ≡ Ok (record { time = s.time; field = mapped })
sample_mapped m s field mapped same is = ap (λ f. with_field s.time (mapped_with m f)) same ∙ ap (with_field s.time) is

pub sample_refused : (m : WaveMap) (s : Sample) (time : ℕ) (field : Field) (refusal : FieldRefusal) → s.time ≡ time → s.field ≡ field → IsFieldCause m field refusal
    → IsSampleCause m s (wave_refusal_at time refusal)
sample_refused m s time field (OutOfRange vertex component) at same cause =
    ap (λ f. with_field s.time (mapped_with m f)) same ∙ ap (with_field s.time) cause
    ∙ ap (λ t. Err (record { time = t; vertex = vertex; component = component })) at
sample_refused m s time field Memory at same cause = search rules
