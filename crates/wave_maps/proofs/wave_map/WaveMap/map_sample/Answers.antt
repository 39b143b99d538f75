use Rattle.std.proofs.Common.{get_or, subst}
use Rattle.nn_mapping.specs.MappedField.{IsFieldOn}
use Rattle.waveform.proofs.Places.{no_sample}
use Rattle.wave_maps.specs.MappedThrough.{sources_of}
use Rattle.wave_maps.proofs.Samples.{field_is, time_is, sample_mapped, sample_refused}
use Rattle.wave_maps.proofs.wave_map.WaveMap.map_sample.Goals as goal

pub map_field-requires-clause-field : goal.map_field-requires-clause-field
map_field-requires-clause-field c =
    subst (λ f. IsFieldOn f (sources_of c.args.self.now)) (field_is c.args.wave.now c.args.i c.field.result.now c.field.ensures c.requires.sample)
    (c.requires.fields c.args.i no_sample c.requires.sample)

pub returns-in-Ok-clause-mapped : goal.returns-in-Ok-clause-mapped
returns-in-Ok-clause-mapped c =
    sample_mapped c.args.self.now (get_or c.args.wave.now c.args.i no_sample) c.field.result.now c.in-Ok.field
    (field_is c.args.wave.now c.args.i c.field.result.now c.field.ensures c.requires.sample) c.in-Ok.ensures.mapped

pub returns-in-Err-clause-refused : goal.returns-in-Err-clause-refused
returns-in-Err-clause-refused c =
    rw c.at.ensures
    (sample_refused c.args.self.now (get_or c.args.wave.now c.args.i no_sample) c.time.result c.field.result.now c.in-Err.refusal
    (time_is c.args.wave.now c.args.i c.time.result c.time.ensures c.requires.sample)
    (field_is c.args.wave.now c.args.i c.field.result.now c.field.ensures c.requires.sample) c.in-Err.ensures.refused)
