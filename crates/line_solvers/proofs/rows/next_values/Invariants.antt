use Rattle.std.proofs.Common.{◌≡◌, take, All}
use Rattle.fixed_num.specs.Numbers.{IsValue}
use Rattle.line_solvers.specs.RowsStep.{rows_components}
use Rattle.line_solvers.proofs.rows.next_values.Given as goal

abbrev pub invariant-loop-row : goal.invariant-loop-row
invariant-loop-row l =
    (l.next.items ≡ rows_components (take l.row-index l.rows) l.state l.inputs) × (All IsValue l.next.items)
