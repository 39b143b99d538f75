-- Two runs worked by hand. The project's own.
use Rattle.std.specs.Prelude.{◌++◌, codes}
use Rattle.coupling_run.specs.Outcome.{Outcome}
use Rattle.coupling_run.specs.ReportText.{line_feed}
use Rattle.coupling_run.specs.declared.status.Status.TheVariants.{Ok, RunFault}

-- three windows in which A adds 1: A is 1, 1.5, 1.75 and B 0.5, 0.75, 0.875
abbrev pub base_outcome : Outcome
base_outcome = record {
  status = Ok;
  text = codes "coupled 3 windows to 30" ++ line_feed ++ codes "participant A steps 3 state 1.75" ++ line_feed ++ codes "participant B steps 3 state 0.875" ++ line_feed;
}

-- A adds 10000000: in window 2 it reads 5000000 and would pass the greatest value
abbrev pub faulting_outcome : Outcome
faulting_outcome = record {
  status = RunFault;
  text = codes "fault participant A window 2 iteration 1 step 1 code 1" ++ line_feed;
}
