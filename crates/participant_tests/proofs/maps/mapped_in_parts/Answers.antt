use Rattle.std.proofs.Common.{rules, subst}
use Rattle.nn_mapping.specs.MappedField.{IsFieldOn}
use Rattle.waveform.proofs.Places.{no_sample}
use Rattle.wave_maps.specs.MappedThrough.{sources_of}
use Rattle.wave_maps.proofs.Samples.{field_is}
use Rattle.participant_tests.proofs.maps.mapped_in_parts.Goals as goal

pub map_field-requires-clause-field : goal.map_field-requires-clause-field
map_field-requires-clause-field c =
    subst (λ f. IsFieldOn f (sources_of c.args.map.now)) (field_is c.args.wave.now 0 c.field.result.now c.field.ensures (search rules))
    (c.requires.fields 0 no_sample (search rules))
