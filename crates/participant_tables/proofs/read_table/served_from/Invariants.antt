use Rattle.std.proofs.Common.{◌≡◌, ◌≤◌}
use Rattle.participant_tables.proofs.Looking.{IsLooking}
use Rattle.participant_tables.proofs.read_table.served_from.Given as goal

abbrev pub invariant-loop-exchange : goal.invariant-loop-exchange
invariant-loop-exchange l =
    (l.exchange-items ≡ l.plan.exchanges) × (l.place ≤ l.exchange-index) × IsLooking l.plan l.part l.entry l.place l.exchange-index
