use Rattle.std.specs.List.{AllWithin}
use Rattle.fixed_num.specs.Numbers.{IsCoordinate}
use Rattle.call_parts.proofs.coordinates.first_outside.Given as goal

abbrev pub invariant-loop-i : goal.invariant-loop-i
invariant-loop-i l = AllWithin IsCoordinate l.numbers 0 l.i
