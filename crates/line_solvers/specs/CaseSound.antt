-- Which descriptions of a solver are sound: their keys are within their ranges, and fit each other. The project's own.
use Rattle.std.specs.Prelude.{◌≡◌, ◌<◌, ◌≤◌, ◌+◌, ◌/◌, ◌*◌, ◌^◌, ◌&&◌, Bool, ℤ, pos, ◌≤ℤ◌, length, is_some, is_none, IsSome, IsNone, IfSome, IsTrue, if◌then◌else◌}
use Rattle.std.specs.List.{All}
use Rattle.fixed_num.specs.Numbers.{IsValue, IsFactor}
use Rattle.line_solvers.specs.declared.case.CaseParts.{CaseParts}
use Rattle.line_solvers.specs.declared.case.SolverKind.{SolverKind}
use Rattle.line_solvers.specs.declared.case.SolverKind.TheVariants.{Rows, Rod, Spring, Recorded}
use Rattle.line_solvers.specs.Sound.{IsSoundRow, none_or_each, IsSoundRecord}
use Rattle.line_solvers.specs.Components.{component}
use Rattle.line_solvers.specs.RecordedStep.{used}
use Rattle.line_solvers.specs.CaseMeaning.{state_of_case, out_of_case, rows_of_case, records_of_case}

-- whether there is `state` alone, or `fill` and `count` without it
abbrev pub has_one_state : CaseParts → Bool
has_one_state parts =
    if is_some parts.state
    then is_none parts.fill && is_none parts.count
    else is_some parts.fill && is_some parts.count

-- how many components a filled state may have
pub record IsCount (count : ℤ) : Type 0 where
  pub least : pos 1 ≤ℤ count
  pub most : count ≤ℤ pos 60000

-- the keys of rows
pub record IsRowsCase (parts : CaseParts) : Type 0 where
  pub has_rows : IsSome parts.row
  pub a_row_each : length (rows_of_case parts) ≡ length (state_of_case parts)
  pub rows : All (IsSoundRow (length (state_of_case parts)) parts.reads) (rows_of_case parts)

-- the keys of a rod
pub record IsRodCase (parts : CaseParts) : Type 0 where
  pub alpha : IsFactor parts.alpha
  pub beta : IsFactor parts.beta
  pub reads : IsTrue (none_or_each parts.reads (length (state_of_case parts)))

-- the keys of a spring
pub record IsSpringCase (parts : CaseParts) : Type 0 where
  pub stiff : IsFactor parts.stiff
  pub damp : IsFactor parts.damp
  pub gain : IsFactor parts.gain
  pub rate : IsFactor parts.rate
  pub halves : length (state_of_case parts) ≡ 2 * (length (state_of_case parts) / 2)
  pub reads : IsTrue (none_or_each parts.reads (length (state_of_case parts) / 2))

-- the keys of a recorded participant: component 0 is a whole number of records, from none to all of them, and behind it
-- there is a component for each written value
pub record IsRecordedCase (parts : CaseParts) : Type 0 where
  pub has_records : IsSome parts.records
  pub few : length (records_of_case parts) ≤ 10000
  pub records : All (IsSoundRecord (length (state_of_case parts))) (records_of_case parts)
  pub a_value_each : 1 + parts.writes ≡ length (state_of_case parts)
  pub whole : component (state_of_case parts) 0 ≡ pos (used (state_of_case parts) * 10 ^ 6)
  pub no_more : used (state_of_case parts) ≤ length (records_of_case parts)
  pub nothing_listed : IsNone parts.out

abbrev pub IsCaseOfKind : SolverKind → CaseParts → Type 0
IsCaseOfKind Rows parts = IsRowsCase parts
IsCaseOfKind Rod parts = IsRodCase parts
IsCaseOfKind Spring parts = IsSpringCase parts
IsCaseOfKind Recorded parts = IsRecordedCase parts

-- a description that a solver can be made of
pub record IsSoundCase (parts : CaseParts) : Type 0 where
  pub a_tick : pos 1 ≤ℤ parts.step
  pub step_limit : parts.step ≤ℤ pos (10 ^ 9)
  -- the state
  pub one_state : IsTrue (has_one_state parts)
  pub not_empty : IfSome parts.state (λ components. 1 ≤ length components)
  pub not_long : IfSome parts.state (λ components. length components ≤ 60000)
  pub values : IfSome parts.state (λ components. All IsValue components)
  pub fill : IfSome parts.fill IsValue
  pub count : IfSome parts.count IsCount
  -- what is forbidden, and what is written
  pub forbid : IfSome parts.forbid (λ bound. pos 1 ≤ℤ bound)
  pub out_listed : IfSome parts.out (λ places. All (λ place. pos 0 ≤ℤ place) places)
  pub out_range : All (λ place. place < length (state_of_case parts)) (out_of_case parts)
  pub out_length : length (out_of_case parts) ≡ parts.writes
  -- the keys of its kind
  pub kind : IsCaseOfKind parts.solver parts
