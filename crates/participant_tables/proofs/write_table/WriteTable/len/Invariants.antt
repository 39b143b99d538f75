use Rattle.std.proofs.Common.{All, take}
use Rattle.participant_tables.specs.WriteKept.{AreSamples}
use Rattle.participant_tables.proofs.write_table.WriteTable.len.Given as goal

abbrev pub invariant-loop-i : goal.invariant-loop-i
invariant-loop-i l = All AreSamples (take l.i l.self-inside.entries.items)
