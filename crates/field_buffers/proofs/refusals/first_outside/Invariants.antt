use Rattle.std.specs.List.{AllWithin}
use Rattle.fixed_num.specs.Numbers.{IsValue}
use Rattle.field_buffers.proofs.refusals.first_outside.Given as goal

abbrev pub invariant-loop-i : goal.invariant-loop-i
invariant-loop-i l = AllWithin IsValue l.numbers 0 l.i
