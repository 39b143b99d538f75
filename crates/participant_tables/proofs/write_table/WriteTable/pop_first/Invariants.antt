use Rattle.std.proofs.Common.{◌≡◌}
use Rattle.participant_tables.specs.WriteSteps.{unsampled}
use Rattle.participant_tables.proofs.InPlace.{changed}
use Rattle.participant_tables.proofs.write_table.WriteTable.pop_first.Given as goal

abbrev pub invariant-loop-i : goal.invariant-loop-i
invariant-loop-i l = l.self-inside.entries.items ≡ changed unsampled l.i l.fn.self
