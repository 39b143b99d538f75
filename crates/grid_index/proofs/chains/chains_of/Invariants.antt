use Rattle.grid_index.proofs.Chained.{AreChainsUpto}
use Rattle.grid_index.proofs.chains.chains_of.Given as goal

abbrev pub invariant-loop-v : goal.invariant-loop-v
invariant-loop-v l = AreChainsUpto l.places l.cells l.v l.ends.items l.before.items
