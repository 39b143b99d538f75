use Rattle.std.proofs.Common.{◌≡◌}
use Rattle.participant_tables.specs.WriteSteps.{forgotten}
use Rattle.participant_tables.proofs.InPlace.{changed}
use Rattle.participant_tables.proofs.write_table.WriteTable.forget_samples.Given as goal

abbrev pub invariant-loop-i : goal.invariant-loop-i
invariant-loop-i l = l.self-inside.entries.items ≡ changed forgotten l.i l.fn.self
