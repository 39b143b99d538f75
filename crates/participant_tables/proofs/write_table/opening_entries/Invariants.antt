use Rattle.std.proofs.Common.{◌≡◌, map, take}
use Rattle.participant_tables.specs.WriteSteps.{opening_write}
use Rattle.participant_tables.proofs.write_table.opening_entries.Given as goal

abbrev pub invariant-writes : goal.invariant-writes
invariant-writes l = l.entries.items ≡ map (opening_write l.plan l.part) (take l.entry-index l.writes)
