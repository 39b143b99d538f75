use Rattle.std.proofs.Common.{◌≡◌, ◌≤◌, length, take, drop, ℕ}
use Rattle.io_edge.specs.Taken.{taken_more}
use Rattle.io_edge.proofs.sink.put_all.Given as goal

-- the first n bytes were taken, and the rest is what stands behind them
abbrev pub invariant-loop-rest : goal.invariant-loop-rest
invariant-loop-rest g l =
    ((n : ℕ) × (n ≤ length l.bytes) × (l.rest ≡ drop n l.bytes) × (g.O.Sink.taken l.out ≡ taken_more (g.O.Sink.taken l.initial.out) (take n l.bytes)))
    × (g.O.Sink.faults l.initial.out ≤ g.O.Sink.faults l.out)

abbrev pub decreases-loop-rest : goal.decreases-loop-rest
decreases-loop-rest g l = length l.rest
