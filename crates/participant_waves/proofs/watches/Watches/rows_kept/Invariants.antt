use Rattle.std.proofs.Common.{◌≡◌, ◌++◌, map, drop}
use Rattle.std.specs.List.{enumerate_from}
use Rattle.participant_waves.specs.RowsKept.{rows_kept, watch_kept}
use Rattle.participant_waves.proofs.watches.Watches.rows_kept.Given as goal

-- what is made, before what is left
abbrev pub invariant-loop-i : goal.invariant-loop-i
invariant-loop-i l =
    l.rows.items ++ map (λ at. watch_kept l.plan l.self l.writes l.inputs l.clock at.0 at.1) (enumerate_from l.i (drop l.i l.watches))
    ≡ rows_kept l.plan l.self l.writes l.inputs l.clock
