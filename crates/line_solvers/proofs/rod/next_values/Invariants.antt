use Rattle.std.proofs.Common.{◌≡◌, map, All}
use Rattle.std.specs.List.{range_with_len}
use Rattle.fixed_num.specs.Numbers.{IsValue}
use Rattle.line_solvers.specs.RodStep.{rod_component}
use Rattle.line_solvers.proofs.rod.next_values.Given as goal

abbrev pub invariant-loop-i : goal.invariant-loop-i
invariant-loop-i l =
    (l.next.items ≡ map (rod_component l.rod l.ticks l.state l.inputs) (range_with_len 0 l.i)) × (All IsValue l.next.items)
