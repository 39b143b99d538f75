use Rattle.std.proofs.Common.{◌≡◌, ◌++◌, map, All}
use Rattle.std.specs.List.{range_with_len}
use Rattle.fixed_num.specs.Numbers.{IsValue}
use Rattle.line_solvers.specs.SpringStep.{new_velocity}
use Rattle.line_solvers.proofs.spring.push_velocities.Given as goal

abbrev pub invariant-loop-i : goal.invariant-loop-i
invariant-loop-i l =
    (l.next.items ≡ l.initial.next.items ++ map (new_velocity l.spring l.ticks l.positions l.velocities l.inputs) (range_with_len 0 l.i))
    × (All IsValue l.next.items)
