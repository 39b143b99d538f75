use Rattle.std.proofs.Common.{◌≡◌, ◌++◌, take}
use Rattle.participant_waves.specs.RowsKept.{all_read}
use Rattle.participant_waves.proofs.shown.push_all_read.Given as goal

abbrev pub invariant-loop-i : goal.invariant-loop-i
invariant-loop-i l = l.values.items ≡ l.fn.values.items ++ all_read l.plan l.part l.inputs l.now l.mesh l.vertex (take l.i l.entries)
