use Rattle.std.specs.Iterator.Adapters.{zip_first, zip_second}
use Rattle.std.specs.Slice.Iter.{iter_rest}
use Rattle.fixed_num.proofs.Products.{Carries}
use Rattle.fixed_num.proofs.norms.dot.Given as goal

abbrev pub invariant-loop-x : goal.invariant-loop-x
invariant-loop-x l = Carries (iter_rest (zip_first l.x-iterator)) (iter_rest (zip_second l.x-iterator)) l.a l.b l.sum
