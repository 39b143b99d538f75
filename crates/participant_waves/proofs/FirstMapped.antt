-- The first field of a mapped wave is the first field of the wave, mapped.
use Rattle.std.proofs.Common.{◌≡◌, ℕ, ◌≤◌, length, get_or, Result, Ok, Err, Some, ap, sym, ◌∙◌, arith}
use Rattle.std.specs.List.{slice_get}
use Rattle.waveform.specs.declared.field.Field.{Field}
use Rattle.waveform.specs.declared.sample.Sample.{Sample}
use Rattle.waveform.specs.IsWave.{fields}
use Rattle.waveform.proofs.Places.{no_sample}
use Rattle.wave_coupling.specs.Posts.{Wave}
use Rattle.wave_coupling.specs.Mapped.{with_field}
use Rattle.wave_laws.proofs.MappedWaves.{each_made}
use Rattle.wave_maps.specs.declared.wave_map.WaveMap.{WaveMap}
use Rattle.wave_maps.specs.MappedThrough.{mapped_at, mapped_through, mapped_with}
use Rattle.wave_maps.proofs.Samples.{field_is, sample_mapped}

field_made : (time : ℕ) (result : Result Field (ℕ × ℕ)) (s : Sample) → with_field time result ≡ Ok s → result ≡ Ok s.field
field_made time (Ok field) s is = let same : record { time = time; field = field } ≡ s = cc in ap (λ (one : Sample). Ok one.field) same
field_made time (Err place) s is = cc

pub first_is : (m : WaveMap) (wave out : Wave) (given mapped : Field) → 1 ≤ length wave → mapped_through m wave ≡ Ok out
    → slice_get (fields wave) 0 ≡ Some given → slice_get (fields out) 0 ≡ Some mapped → mapped_with m given ≡ Ok mapped
first_is m wave out given mapped some is from to =
    let all = each_made (mapped_at m) wave out is in
    let one = field_made (get_or wave 0 no_sample).time (mapped_with m (get_or wave 0 no_sample).field) (get_or out 0 no_sample)
    (all.each 0 no_sample no_sample (omega (arith, some))) in
    ap (mapped_with m) (sym (field_is wave 0 given from (omega (arith, some)))) ∙ one ∙ ap Ok (field_is out 0 mapped to (omega (arith, some, all.many)))

-- what a wave begins with, where it is mapped already
pub first_again : (m : WaveMap) (wave : Wave) (given field mapped : Field) → 1 ≤ length wave → slice_get (fields wave) 0 ≡ Some field → given ≡ field → mapped_with m given ≡ Ok mapped
    → mapped_at m (get_or wave 0 no_sample) ≡ Ok (record { time = (get_or wave 0 no_sample).time; field = mapped })
first_again m wave given field mapped some is same kept =
    sample_mapped m (get_or wave 0 no_sample) given mapped (field_is wave 0 field is (omega (arith, some)) ∙ sym same) kept
