use Rattle.std.proofs.Common.{◌≡◌, ◌++◌, take, filter, nat_eq}
use Rattle.watch_log.proofs.watches.push_entries_on.Given as goal

abbrev pub invariant-loop-entry : goal.invariant-loop-entry
invariant-loop-entry l = l.entries.items ≡ l.fn.entries.items ++ filter (λ entry. nat_eq entry.mesh l.mesh) (take l.entry-index l.list)
