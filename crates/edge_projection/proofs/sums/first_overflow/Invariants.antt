use Rattle.std.specs.List.{AllWithin}
use Rattle.fixed_num.specs.Numbers.{IsValue}
use Rattle.edge_projection.proofs.sums.first_overflow.Given as goal

abbrev pub invariant-loop-i : goal.invariant-loop-i
invariant-loop-i l = AllWithin IsValue l.sums 0 l.i
