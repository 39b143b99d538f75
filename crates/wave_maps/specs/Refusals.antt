-- Why a field, a sample or a wave is not mapped. The project's own.
use Rattle.std.specs.Prelude.{◌≡◌, ℕ, Err, ⊤}
use Rattle.waveform.specs.declared.field.Field.{Field}
use Rattle.waveform.specs.declared.sample.Sample.{Sample}
use Rattle.wave_coupling.specs.Posts.{Wave}
use Rattle.wave_maps.specs.declared.wave_map.WaveMap.{WaveMap}
use Rattle.wave_maps.specs.declared.map_errors.FieldRefusal.{FieldRefusal}
use Rattle.wave_maps.specs.declared.map_errors.FieldRefusal.TheVariants.{OutOfRange, Memory}
use Rattle.wave_maps.specs.declared.map_errors.WaveRefusal.{WaveRefusal}
use Rattle.wave_maps.specs.declared.map_errors.WaveRefusal.TheVariants.{OutOfRange as OutAtTime, Memory as NoWave}
use Rattle.wave_maps.specs.MappedThrough.{mapped_with, mapped_at, mapped_through}

-- the refusal of a wave by that of its sample at a time
abbrev pub wave_refusal_at : (time : ℕ) → FieldRefusal → WaveRefusal
wave_refusal_at time (OutOfRange vertex component) = OutAtTime time vertex component
wave_refusal_at time Memory = NoWave

-- a place is told where the mapped field is undefined there first; want of memory is free
abbrev pub IsFieldCause : WaveMap → Field → FieldRefusal → Type 0
IsFieldCause m field (OutOfRange vertex component) = mapped_with m field ≡ Err (vertex, component)
IsFieldCause m field Memory = ⊤

abbrev pub IsSampleCause : WaveMap → Sample → WaveRefusal → Type 0
IsSampleCause m sample (OutAtTime time vertex component) =
    mapped_at m sample ≡ Err (record { time = time; vertex = vertex; component = component })
IsSampleCause m sample NoWave = ⊤

abbrev pub IsWaveCause : WaveMap → Wave → WaveRefusal → Type 0
IsWaveCause m wave (OutAtTime time vertex component) =
    mapped_through m wave ≡ Err (record { time = time; vertex = vertex; component = component })
IsWaveCause m wave NoWave = ⊤
