use Rattle.std.proofs.Common.{◌-◌, ◌<◌, All, length, drop}
use Rattle.call_parts.proofs.kept_rows.place_behind.Given as goal

-- the rows so far are of later watch-points
abbrev pub invariant-loop-i : goal.invariant-loop-i
invariant-loop-i l = All (λ row. l.watch < row.watch) (drop (length l.rows - l.i) l.rows)
