use Rattle.std.proofs.Common.{refl}
use Rattle.std.specs.Fmt.{digits}
use Rattle.fixed_num.specs.Numbers.{quotient, nearest_of}
use Rattle.line_solvers.specs.RowsStep.{weighted_sum}
use Rattle.line_text.specs.Printing.{value_text, decimal_digits}
use Rattle.line_text.specs.Spelling.{text_of}
use Rattle.coupling_run.specs.ReportText.{coupled_line}
use Rattle.coupling_run.proofs.laws.worked_runs.Goals as goal

pub returns-clause-base : goal.returns-clause-base
unfolding quotient nearest_of weighted_sum value_text decimal_digits text_of coupled_line digits
returns-clause-base c = refl

pub returns-clause-faulting : goal.returns-clause-faulting
unfolding quotient nearest_of weighted_sum digits
returns-clause-faulting c = refl
