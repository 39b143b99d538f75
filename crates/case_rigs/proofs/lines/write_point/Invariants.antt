use Rattle.std.proofs.Common.{◌≡◌, take, length}
use Rattle.case_rigs.specs.Lines.{line_point}
use Rattle.case_rigs.proofs.lines.write_point.Given as goal

-- the coordinates so far
abbrev pub invariant-loop-axis : goal.invariant-loop-axis
invariant-loop-axis l =
    (length l.at ≡ length l.fn.at)
    × (take l.axis l.at ≡ take l.axis (line_point l.count l.vertex l.from l.to))
