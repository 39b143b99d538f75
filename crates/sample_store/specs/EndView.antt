-- What a store keeps of a window's end, of its fields. The project's own.
use Rattle.std.specs.Prelude.{Some}
use Rattle.sample_store.specs.declared.store.End.{End}
use Rattle.sample_store.specs.declared.store.HeldEnd.{HeldEnd}
use Rattle.sample_store.specs.Ends.{WindowEnd}

abbrev pub end_view : End → WindowEnd
end_view end = record { iteration = end.iteration; sample = Some end.sample }

-- the same, wherever it is kept
abbrev pub held_view : HeldEnd → WindowEnd
held_view end = record { iteration = end.iteration; sample = Some (record { time = end.time; field = end.field.now }) }
