-- Why a field is not mapped. The project's own.
use Rattle.std.specs.Prelude.{◌≡◌, Err, ⊤}
use Rattle.waveform.specs.declared.field.Field.{Field}
use Rattle.nn_mapping.specs.declared.map_errors.ApplyErr.{ApplyErr}
use Rattle.nn_mapping.specs.declared.map_errors.ApplyErr.TheVariants.{Overflow, Memory}
use Rattle.nn_mapping.specs.Mapping.{Mapping}
use Rattle.nn_mapping.specs.MappedField.{mapped_field}

-- an overflow is told where the mapped field is undefined, at its first place; want of memory is free
abbrev pub IsCauseOf : Mapping → Field → ApplyErr → Type 0
IsCauseOf m field (Overflow vertex component) = mapped_field m field ≡ Err (vertex, component)
IsCauseOf m field Memory = ⊤
