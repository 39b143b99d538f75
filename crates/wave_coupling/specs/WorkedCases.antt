-- What a worked coupling is, and what it leaves: the accepted configuration in numbers, and of each participant its meshes and its case file. The project's own.
use Rattle.std.specs.Prelude.{ℕ, List, [], map, slice_index_or, None, ℤ, pos}
use Rattle.cpl_plan.specs.PlanWords.{numbers}
use Rattle.cpl_plan.specs.declared.parts.PlanParts.{PlanParts}
use Rattle.cpl_plan.specs.declared.words.Fault.{Fault}
use Rattle.cpl_plan.specs.declared.words.IterLine.{IterLine}
use Rattle.cpl_plan.specs.declared.words.Verdict.{Verdict}
use Rattle.cpl_plan.specs.declared.words.WatchRow.{WatchRow}
use Rattle.mesh_data.specs.declared.any_mesh.AnyMesh.{AnyMesh}
use Rattle.line_solvers.specs.declared.case.CaseParts.{CaseParts}
use Rattle.line_solvers.specs.declared.case.ReadWhen.TheVariants.{End}
use Rattle.line_solvers.specs.declared.case.SolverKind.TheVariants.{Rows}
use Rattle.line_solvers.specs.CaseMeaning.{spec_of_case, state_of_case}
use Rattle.line_solvers.specs.LineMeaning.{line_behaviour}
use Rattle.coupled_loop.specs.Endings.{Ending}
use Rattle.coupled_loop.specs.CoupledLoop.{coupled, ending_in}
use Rattle.wave_coupling.specs.Noted.{Reading}
use Rattle.wave_coupling.specs.Coupling.{wave_frame, wave_solvers}
use Rattle.wave_coupling.specs.LoopResults.{Results, loop_results}

pub record Worked : Type 0 where
  pub plan : PlanParts
  -- of each participant, by its number
  pub meshes : List (List AnyMesh)
  pub cases : List CaseParts

-- a case file of rows that have read so many values and write so many, with steps of ten ticks, before its rows and its state are told
abbrev pub rows_case : (reads writes : ℕ) → CaseParts
rows_case reads writes =
    record {
      solver = Rows;
      step = pos 10;
      read = End;
      state = None;
      fill = None;
      count = None;
      out = None;
      forbid = None;
      row = None;
      records = None;
      alpha = pos 0;
      beta = pos 0;
      stiff = pos 0;
      damp = pos 0;
      gain = pos 0;
      rate = pos 0;
      reads = reads;
      writes = writes;
    }

module _ (worked : Worked) where
  abbrev pub meshes_of : (part : ℕ) → List AnyMesh
  meshes_of part = slice_index_or worked.meshes part []

  abbrev pub case_of : (part : ℕ) → CaseParts
  case_of part = slice_index_or worked.cases part (rows_case 0 0)

  abbrev pub state_at_first : (part : ℕ) → List ℤ
  state_at_first part = state_of_case (case_of part)

  -- what the loop leaves
  abbrev pub results : Results (List ℤ)
  results = loop_results worked.plan meshes_of (λ part. line_behaviour (spec_of_case (case_of part))) state_at_first

  -- how each participant ends
  abbrev pub endings : List (Ending Fault)
  endings =
      map (λ part. ending_in (coupled (wave_frame worked.plan)
      (wave_solvers worked.plan meshes_of (λ other. line_behaviour (spec_of_case (case_of other))) state_at_first) part))
      (numbers worked.plan.parts)

-- the results but for the readings
pub record Shown : Type 0 where
  pub states : List (List ℤ)
  pub steps : List ℕ
  pub lines : List IterLine
  pub watches : List WatchRow
  pub ends : List ℕ
  pub faults : List Fault

abbrev pub shown_of : Results (List ℤ) → Shown
shown_of results = record {
  states = results.states;
  steps = results.steps;
  lines = results.lines;
  watches = results.watches;
  ends = results.ends;
  faults = results.faults;
}

abbrev pub shown : Worked → Shown
shown worked = shown_of (results worked)

-- a line of the first scheme
abbrev pub line : (window iteration : ℕ) → Verdict → (norms : List ℕ) → IterLine
line window iteration verdict norms = record { scheme = 0; window = window; iteration = iteration; verdict = verdict; norms = norms }

-- a reading of the first entry, by one step of a window
abbrev pub reading : (window iteration time : ℕ) → (source_window source_iteration : ℕ) → (values : List ℤ) → Reading
reading window iteration time source_window source_iteration values = record {
  window = window;
  iteration = iteration;
  step = 1;
  time = time;
  entry = 1;
  source_window = source_window;
  source_iteration = source_iteration;
  values = values;
}
