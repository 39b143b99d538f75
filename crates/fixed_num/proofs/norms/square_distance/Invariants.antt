use Rattle.std.proofs.Common.{◌-ℤ◌}
use Rattle.std.specs.Iterator.Adapters.{zip_first, zip_second}
use Rattle.std.specs.Slice.Iter.{iter_rest}
use Rattle.fixed_num.specs.Norm.{square}
use Rattle.fixed_num.proofs.Squares.{CarriesSquares}
use Rattle.fixed_num.proofs.norms.square_distance.Given as goal

abbrev pub invariant-loop-x : goal.invariant-loop-x
invariant-loop-x g l =
    CarriesSquares g.T.InUnits.is_small (λ p. square (g.T.InUnits.units p.0 -ℤ g.T.InUnits.units p.1))
    (iter_rest (zip_first l.x-iterator)) (iter_rest (zip_second l.x-iterator)) l.a l.b l.sum
