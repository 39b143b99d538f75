use Rattle.std.proofs.Common.{◌≡◌, ◌++◌, take}
use Rattle.std.specs.List.{flat_map}
use Rattle.watch_log.specs.ReportText.{watch_line}
use Rattle.watch_log.proofs.report.push_rows.Given as goal

abbrev pub invariant-loop-row : goal.invariant-loop-row
invariant-loop-row l = l.text.items ≡ l.fn.text.items ++ flat_map (watch_line l.plan l.ends) (take l.row-index l.rows)
