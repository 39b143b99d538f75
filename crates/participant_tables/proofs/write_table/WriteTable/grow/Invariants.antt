use Rattle.std.proofs.Common.{◌≡◌}
use Rattle.participant_tables.specs.WriteSteps.{grown}
use Rattle.participant_tables.proofs.InPlace.{changed}
use Rattle.participant_tables.proofs.write_table.WriteTable.grow.Given as goal

abbrev pub invariant-loop-i : goal.invariant-loop-i
invariant-loop-i l = l.self ≡ changed (grown l.place l.more) l.i l.fn.self
