use Rattle.std.proofs.Common.{◌≡◌, map, take, drop, All}
use Rattle.std.specs.List.{range_with_len}
use Rattle.fixed_num.specs.Numbers.{IsValue}
use Rattle.line_solvers.specs.SpringStep.{new_position}
use Rattle.line_solvers.proofs.spring.move_positions.Given as goal

abbrev pub invariant-loop-i : goal.invariant-loop-i
invariant-loop-i l = record {
  moved : take l.i l.positions ≡ map (new_position l.rate l.ticks l.initial.positions l.velocities) (range_with_len 0 l.i);
  left : drop l.i l.positions ≡ drop l.i l.initial.positions;
  values : All IsValue l.positions;
}
