-- What the program answers: a status and the bytes that it writes, as a function of its words and of the files. The
-- project's own.
use Rattle.std.specs.Prelude.{ℕ, Bool, if◌then◌else◌, List, [], ◌++◌, ℤ, Option, Some, None, codes}
use Rattle.io_edge.specs.FileMap.{FileMap}
use Rattle.line_solvers.specs.LineMeaning.{line_behaviour}
use Rattle.coupling_run.specs.Cases.{first_spec, second_spec, opening_state}
use Rattle.coupling_run.specs.Form.{windows_of, add_of, is_second_case}
use Rattle.coupling_run.specs.LoopResults.{LoopResults, loop_results}
use Rattle.coupling_run.specs.ReportText.{report, fault_line, line_feed}
use Rattle.coupling_run.specs.declared.base.TheConstants.{FIRST_NAME, SECOND_NAME}
use Rattle.coupling_run.specs.declared.fault.Fault.{Fault}
use Rattle.coupling_run.specs.declared.status.Status.{Status}
use Rattle.coupling_run.specs.declared.status.Status.TheVariants.{Ok, Usage, ReadFault, Refused, RunFault}

pub record Outcome : Type 0 where
  pub status : Status
  pub text : List ℕ

-- every other list of words is answered by the usage line
abbrev pub usage : Outcome
usage = record {
  status = Usage;
  text = codes "usage: coupling run <config> [--workers N] | solo <config> [--schedule S] | check <config> | mill <number>" ++ line_feed;
}

-- where a file that is asked for is not there, nothing is written
abbrev pub unread : Outcome
unread = record { status = ReadFault; text = [] }

-- C0 refuses what is not built yet
abbrev pub refused_at : List ℕ → Outcome
refused_at place = record { status = Refused; text = codes "refused C0 at " ++ place ++ line_feed }

-- the line of the fault that the loop meets first, or the report
abbrev pub told_results : ℕ → LoopResults (List ℤ) (List ℤ) → Option Fault → Outcome
told_results windows results (Some fault) = record { status = RunFault; text = fault_line fault }
told_results windows results None = record { status = Ok; text = report windows results }

abbrev pub loop_outcome : ℕ → LoopResults (List ℤ) (List ℤ) → Outcome
loop_outcome windows results = told_results windows results results.fault

-- a run of so many windows, where A adds so many units
abbrev pub run_outcome : ℕ → ℤ → Outcome
run_outcome windows add =
    loop_outcome windows
    (loop_results (line_behaviour (first_spec add)) (line_behaviour second_spec) opening_state opening_state windows)

abbrev pub second_outcome : ℕ → ℤ → Bool → Outcome
second_outcome windows add accepted = if accepted then run_outcome windows add else refused_at (codes "case B")

-- the cases are tried in the order of the participants
abbrev pub cases_outcome : ℕ → Option ℤ → Bool → Outcome
cases_outcome windows None accepted = refused_at (codes "case A")
cases_outcome windows (Some add) accepted = second_outcome windows add accepted

-- both case files are loaded before either is tried
abbrev pub loaded_outcome : ℕ → Option (List ℕ) → Option (List ℕ) → Outcome
loaded_outcome windows None second = unread
loaded_outcome windows (Some first) None = unread
loaded_outcome windows (Some first) (Some second) = cases_outcome windows (add_of first) (is_second_case second)

-- the names of the case files, as the configuration gives them
abbrev pub first_case_name : List ℕ
first_case_name = FIRST_NAME.now

abbrev pub second_case_name : List ℕ
second_case_name = SECOND_NAME.now

-- the case files are loaded only for a configuration that is accepted
abbrev pub accepted_outcome : FileMap → Option ℕ → Outcome
accepted_outcome files None = refused_at (codes "config")
accepted_outcome files (Some windows) = loaded_outcome windows (files first_case_name) (files second_case_name)

abbrev pub config_outcome : FileMap → Option (List ℕ) → Outcome
config_outcome files None = unread
config_outcome files (Some config) = accepted_outcome files (windows_of config)
