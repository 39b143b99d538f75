use Rattle.std.proofs.Common.{◌≡◌, ◌*◌, drop}
use Rattle.field_buffers.specs.Rows.{with_rows}
use Rattle.field_buffers.proofs.rows.write_rows.Given as goal

-- what is left to be written makes of the values what all of it makes of those at entry
abbrev pub invariant-loop-i : goal.invariant-loop-i
invariant-loop-i l =
    with_rows l.components (drop l.i l.vertices) (drop (l.i * l.components) l.rows) l.values
    ≡ with_rows l.components l.vertices l.rows l.fn.values
