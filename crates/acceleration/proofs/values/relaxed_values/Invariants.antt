use Rattle.std.proofs.Common.{◌≡◌, take, All}
use Rattle.fixed_num.specs.Numbers.{IsValue}
use Rattle.acceleration.specs.RelaxedWaves.{relaxed_values}
use Rattle.acceleration.proofs.values.relaxed_values.Given as goal

abbrev pub invariant-loop-i : goal.invariant-loop-i
invariant-loop-i l =
    (l.values.items ≡ take l.i (relaxed_values l.step.factor l.read l.posted)) × All IsValue l.values.items
