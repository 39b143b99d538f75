-- What a step makes of a recorded participant: component 0 counts the records that were used, in whole units, and the
-- others are the written values of the last of them. The project's own.
use Rattle.std.specs.Prelude.{ℕ, ◌/◌, ◌^◌, List, ◌∷◌, Option, ℤ, pos, ◌+ℤ◌, unsigned_abs, slice_get}
use Rattle.line_solvers.specs.declared.case.RecordEntry.{RecordEntry}
use Rattle.line_solvers.specs.Components.{component}

-- how many records were used
abbrev pub used : List ℤ → ℕ
used state = unsigned_abs (component state 0) / 10 ^ 6

-- the record that the next step uses, where one is left
abbrev pub next_record : List RecordEntry → List ℤ → Option RecordEntry
next_record records state = slice_get records (used state)

-- the components after a step that uses this record: one more is used, and its writes are the written values
abbrev pub recorded_components : List ℤ → RecordEntry → List ℤ
recorded_components state entry = (component state 0 +ℤ pos (10 ^ 6)) ∷ entry.writes
