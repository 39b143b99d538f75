use Rattle.std.proofs.Common.{◌≡◌}
use Rattle.participant_tables.specs.WriteSteps.{shrunk}
use Rattle.participant_tables.proofs.InPlace.{changed}
use Rattle.participant_tables.proofs.write_table.WriteTable.shrink_first.Given as goal

abbrev pub invariant-loop-i : goal.invariant-loop-i
invariant-loop-i l = l.self-inside.entries.items ≡ changed (shrunk l.place l.before) l.i l.fn.self
