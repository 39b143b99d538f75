use Rattle.std.proofs.Common.{◌≡◌}
use Rattle.participant_tables.specs.WriteSteps.{sampled}
use Rattle.participant_tables.proofs.InPlace.{changed}
use Rattle.participant_tables.proofs.write_table.WriteTable.push_samples.Given as goal

abbrev pub invariant-loop-i : goal.invariant-loop-i
invariant-loop-i l = l.self ≡ changed (sampled l.time) l.i l.fn.self
