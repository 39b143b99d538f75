use Rattle.std.proofs.Common.{◌≡◌, ◌++◌, take}
use Rattle.participant_waves.specs.RowsKept.{all_written}
use Rattle.participant_waves.proofs.shown.push_all_written.Given as goal

abbrev pub invariant-loop-entry : goal.invariant-loop-entry
invariant-loop-entry l = l.values.items ≡ l.fn.values.items ++ all_written l.plan l.part l.writes l.mesh l.vertex (take l.entry-index l.entries)
