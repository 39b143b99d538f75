use Rattle.std.proofs.Common.{◌≡◌, take, map, unsigned_abs}
use Rattle.line_solvers.proofs.line.indexes_of.Given as goal

abbrev pub invariant-loop-place : goal.invariant-loop-place
invariant-loop-place l = l.indexes.items ≡ map unsigned_abs (take l.place-index l.places)
