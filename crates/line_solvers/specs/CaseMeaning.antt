-- The solver that a case file describes. The project's own.
use Rattle.std.specs.Prelude.{ℕ, List, [], ℤ, pos, unsigned_abs, length, map, replicate, unwrap_or}
use Rattle.std.specs.List.{range_with_len}
use Rattle.std.specs.Option.{option_map, option_map_or}
use Rattle.line_solvers.specs.declared.case.CaseParts.{CaseParts}
use Rattle.line_solvers.specs.declared.case.RowParts.{RowParts}
use Rattle.line_solvers.specs.declared.case.RodNumbers.{RodNumbers}
use Rattle.line_solvers.specs.declared.case.SpringNumbers.{SpringNumbers}
use Rattle.line_solvers.specs.declared.case.RecordEntry.{RecordEntry}
use Rattle.line_solvers.specs.declared.case.SolverKind.{SolverKind}
use Rattle.line_solvers.specs.declared.case.SolverKind.TheVariants.{Rows, Rod, Spring, Recorded}
use Rattle.line_solvers.specs.Common.{Common}
use Rattle.line_solvers.specs.LineMeaning.{Rule, of_rows, of_rod, of_spring, of_records, LineSpec}

-- so many components that are all the same
abbrev pub filled_state : CaseParts → List ℤ
filled_state parts = replicate (unsigned_abs (unwrap_or parts.count (pos 0))) (unwrap_or parts.fill (pos 0))

-- the first state: as it is listed, or filled
abbrev pub state_of_case : CaseParts → List ℤ
state_of_case parts = unwrap_or parts.state (filled_state parts)

-- the first component that is written, where none is listed: what is recorded stands behind component 0
abbrev pub first_out : SolverKind → ℕ
first_out Rows = 0
first_out Rod = 0
first_out Spring = 0
first_out Recorded = 1

-- the indexes of the components that are written: as they are listed, or as many from the first one on
abbrev pub out_of_case : CaseParts → List ℕ
out_of_case parts = option_map_or (map unsigned_abs) parts.out (range_with_len (first_out parts.solver) parts.writes)

-- the rows, one for each component
abbrev pub rows_of_case : CaseParts → List RowParts
rows_of_case parts = unwrap_or parts.row []

abbrev pub rod_of_case : CaseParts → RodNumbers
rod_of_case parts = record { alpha = parts.alpha; beta = parts.beta }

abbrev pub spring_of_case : CaseParts → SpringNumbers
spring_of_case parts = record { stiff = parts.stiff; damp = parts.damp; gain = parts.gain; rate = parts.rate }

-- the records, in the order of the steps
abbrev pub records_of_case : CaseParts → List RecordEntry
records_of_case parts = unwrap_or parts.records []

abbrev pub rule_of_kind : SolverKind → CaseParts → Rule
rule_of_kind Rows parts = of_rows (rows_of_case parts)
rule_of_kind Rod parts = of_rod (rod_of_case parts)
rule_of_kind Spring parts = of_spring (spring_of_case parts)
rule_of_kind Recorded parts = of_records (records_of_case parts)

abbrev pub common_of_case : CaseParts → Common
common_of_case parts =
    record {
      step = unsigned_abs parts.step;
      read = parts.read;
      forbid = option_map unsigned_abs parts.forbid;
      out = out_of_case parts;
      reads = parts.reads;
      size = length (state_of_case parts);
    }

-- what never changes of the solver
abbrev pub spec_of_case : CaseParts → LineSpec
spec_of_case parts = record { common = common_of_case parts; rule = rule_of_kind parts.solver parts }
