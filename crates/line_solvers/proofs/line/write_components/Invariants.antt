use Rattle.std.proofs.Common.{◌≡◌, take}
use Rattle.line_solvers.specs.Checked.{written}
use Rattle.line_solvers.proofs.line.write_components.Given as goal

abbrev pub invariant-loop-i : goal.invariant-loop-i
invariant-loop-i l = take l.i l.writes ≡ written (take l.i l.out) l.components
