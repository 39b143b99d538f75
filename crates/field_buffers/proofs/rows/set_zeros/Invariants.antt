use Rattle.std.proofs.Common.{◌≡◌, pos, replicate, take}
use Rattle.field_buffers.proofs.rows.set_zeros.Given as goal

abbrev pub invariant-loop-i : goal.invariant-loop-i
invariant-loop-i l = take l.i l.values ≡ replicate l.i (pos 0)
