-- The shipped solvers as solvers: their spec, state and behaviour. The project's own.
use Rattle.std.specs.Prelude.{ℕ, Bool, List, Option, Some, ℤ, length, min, nat_eq, option_map, unsigned_abs}
use Rattle.std.specs.Option.{option_map_or}
use Rattle.solver_trait.specs.Behaviour.{Behaviour, Next}
use Rattle.line_solvers.specs.declared.case.RowParts.{RowParts}
use Rattle.line_solvers.specs.declared.case.RodNumbers.{RodNumbers}
use Rattle.line_solvers.specs.declared.case.SpringNumbers.{SpringNumbers}
use Rattle.line_solvers.specs.declared.case.RecordEntry.{RecordEntry}
use Rattle.line_solvers.specs.Common.{Common, is_at_end}
use Rattle.line_solvers.specs.Checked.{led_to, written}
use Rattle.line_solvers.specs.RowsStep.{rows_components}
use Rattle.line_solvers.specs.RodStep.{rod_components}
use Rattle.line_solvers.specs.SpringStep.{spring_components}
use Rattle.line_solvers.specs.RecordedStep.{next_record, recorded_components}

-- how the components change, by kind
pub data Rule : Type 0 where
  of_rows : List RowParts → Rule
  of_rod : RodNumbers → Rule
  of_spring : SpringNumbers → Rule
  of_records : List RecordEntry → Rule

-- what never changes of a solver
pub record LineSpec : Type 0 where
  pub common : Common
  pub rule : Rule

-- a solver, as its users see it
pub record LineModel : Type 0 where
  pub spec : LineSpec
  pub state : List ℤ

-- the components after a step of so many ticks that reads these values; none where no record is left
abbrev pub new_components : Rule → (ticks : ℕ) (state inputs : List ℤ) → Option (List ℤ)
new_components (of_rows rows) ticks state inputs = Some (rows_components rows state inputs)
new_components (of_rod rod) ticks state inputs = Some (rod_components rod ticks state inputs)
new_components (of_spring spring) ticks state inputs = Some (spring_components spring ticks state inputs)
new_components (of_records records) ticks state inputs = option_map (recorded_components state) (next_record records state)

-- what the step leads to
abbrev pub next_of : LineSpec → (state : List ℤ) (ticks : ℕ) (inputs : List ℤ) → Next (List ℤ)
next_of spec state ticks inputs =
    led_to spec.common.forbid spec.common.out (new_components spec.rule ticks state inputs)

-- the longest step, in ticks: a recorded participant's is that of the next record, where one is left
abbrev pub longest_step : Rule → (step : ℕ) → List ℤ → ℕ
longest_step (of_rows _) step state = step
longest_step (of_rod _) step state = step
longest_step (of_spring _) step state = step
longest_step (of_records records) step state = option_map_or (λ entry. unsigned_abs entry.dt) (next_record records state) step

-- what the solvers of one spec do; their states are lists of components
abbrev pub line_behaviour : LineSpec → Behaviour (List ℤ)
line_behaviour spec =
    record {
      read_len = spec.common.reads;
      write_len = length spec.common.out;
      pick = λ state left. min (longest_step spec.rule spec.common.step state) left;
      reads_at_end = λ _. is_at_end spec.common.read;
      first = λ state. written spec.common.out state;
      next = next_of spec;
    }

-- whether these components can be a state of the solvers of a spec
abbrev pub is_state_of : List ℤ → LineSpec → Bool
is_state_of components spec = nat_eq (length components) spec.common.size
