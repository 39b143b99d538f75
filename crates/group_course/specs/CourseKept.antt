-- What is kept of a scheme's window from one iteration to the next. The project's own.
use Rattle.std.specs.Prelude.{ℕ, List, sum_by}
use Rattle.waveform.specs.declared.sample.Sample.{Sample}
use Rattle.acceleration.specs.Residual.{width}
use Rattle.acceleration.specs.RelaxerState.{RelaxerState, RemembersAsMany}

pub record CourseKept : Type 0 where
  -- what relaxation remembers of the iteration before
  pub relaxer : RelaxerState
  -- the relaxed waves of the accelerated exchanges, in order
  pub waves : List (List Sample)
  -- the change of each measured exchange in the first iteration
  pub firsts : List ℕ

-- what is remembered is of as many values as the relaxed waves have at one time
abbrev pub IsKept : CourseKept → Type 0
IsKept kept = RemembersAsMany kept.relaxer (sum_by width kept.waves)
