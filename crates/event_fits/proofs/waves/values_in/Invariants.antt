use Rattle.std.proofs.Common.{◌≡◌, take}
use Rattle.std.specs.Prelude.{All}
use Rattle.fixed_num.specs.Numbers.{IsValue}
use Rattle.event_fits.proofs.waves.values_in.Given as goal

abbrev pub invariant-loop-i : goal.invariant-loop-i
invariant-loop-i l = record { counted : l.count ≡ l.i; in_range : All IsValue (take l.i l.values) }
