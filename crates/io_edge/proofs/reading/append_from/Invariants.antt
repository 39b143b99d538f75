use Rattle.std.proofs.Common.{◌≡◌, ℕ, ◌+◌, ◌-◌, ◌≤◌, List, ◌++◌, length}
use Rattle.std.specs.Io.KnownBytes.{Consumes}
use Rattle.io_edge.proofs.reading.append_from.Given as goal

-- some bytes that the reader had left stand behind the old ones, and they are few enough
abbrev pub invariant-loop-into : goal.invariant-loop-into
invariant-loop-into g l =
    (bytes : List ℕ) × (length bytes ≤ l.most + 1) × (l.into.items ≡ l.initial.into.items ++ bytes)
    × Consumes (g.F.Read.remaining l.initial.from) (g.F.Read.remaining l.from) bytes

abbrev pub decreases-loop-into : goal.decreases-loop-into
decreases-loop-into g l = l.most + 1 + length l.initial.into.items - length l.into.items
