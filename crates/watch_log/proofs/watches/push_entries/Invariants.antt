use Rattle.std.proofs.Common.{◌≡◌, ◌++◌, drop}
use Rattle.watch_log.specs.ReportText.{entries_text}
use Rattle.watch_log.proofs.watches.push_entries.Given as goal

abbrev pub invariant-loop-entry : goal.invariant-loop-entry
invariant-loop-entry l = l.text.items ++ entries_text l.plan (drop l.entry-index l.entries) l.rest ≡ l.fn.text.items ++ entries_text l.plan l.entries l.values
