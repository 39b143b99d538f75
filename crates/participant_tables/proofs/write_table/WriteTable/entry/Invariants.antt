use Rattle.std.proofs.Common.{◌≡◌, ◌&&◌, nat_eq, drop, position}
use Rattle.std.specs.List.{position_from}
use Rattle.participant_tables.proofs.write_table.WriteTable.entry.Given as goal

-- what is looked for in the rest is looked for in the whole
abbrev pub invariant-loop-i : goal.invariant-loop-i
invariant-loop-i l =
    position_from (λ e. nat_eq e.mesh l.place && nat_eq e.data_id l.data_id) l.i (drop l.i l.self-inside.entries.items)
    ≡ position (λ e. nat_eq e.mesh l.place && nat_eq e.data_id l.data_id) l.self-inside.entries.items
