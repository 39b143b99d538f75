use Rattle.std.proofs.Common.{◌≡◌, take}
use Rattle.field_buffers.proofs.rows.write_row.Given as goal

abbrev pub invariant-loop-i : goal.invariant-loop-i
invariant-loop-i l = take l.i l.out ≡ take l.i l.row
