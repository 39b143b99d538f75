use Rattle.std.proofs.Common.{◌≡◌, map, take}
use Rattle.participant_tables.specs.ReadKept.{opening_read}
use Rattle.participant_tables.proofs.read_table.opening_entries.Given as goal

abbrev pub invariant-reads : goal.invariant-reads
invariant-reads l = l.entries.items ≡ map (opening_read l.plan l.part) (take l.entry-index l.reads)
