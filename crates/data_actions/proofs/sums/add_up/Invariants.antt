use Rattle.std.proofs.Common.{◌≡◌, take, drop, map, All}
use Rattle.std.specs.List.{range_with_len}
use Rattle.fixed_num.specs.Numbers.{IsValue}
use Rattle.data_actions.specs.SummedValues.{made_at}
use Rattle.data_actions.proofs.sums.add_up.Given as goal

abbrev pub invariant-loop-place : goal.invariant-loop-place
invariant-loop-place l =
    (take l.place l.values ≡ map (made_at l.sums l.initial.values) (range_with_len 0 l.place))
    × (drop l.place l.values ≡ drop l.place l.initial.values)
    × All IsValue l.values
