use Rattle.std.proofs.Common.{◌≡◌, ◌-ℤ◌, rules}
use Rattle.fixed_num.specs.Norm.{square}
use Rattle.fixed_num.proofs.Squares.{CarriesSquares-next}
use Rattle.fixed_num.proofs.norms.square_distance.Goals as goal

pub loop-x-preserved : goal.loop-x-preserved
loop-x-preserved g c =
    let split = rw (c.in-Some.ensures.steps.0, c.in-Some.ensures.steps.1) at c.loop-x.invariant in
    let is : c.square_of_difference-sum.result ≡ square (g.T.InUnits.units c.in-Some.x.now -ℤ g.T.InUnits.units c.in-Some.y.now) = search rules in
    CarriesSquares-next _ _ c.in-Some.x.now c.in-Some.y.now _ _ _ _ _ _ is c.square_of_difference-sum.ensures.bound split
