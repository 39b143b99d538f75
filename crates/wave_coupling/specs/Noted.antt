-- What is noted of a participant: what its steps read, from which turn, and what they write. The project's own.
use Rattle.std.specs.Prelude.{ℕ, List, ℤ}

-- a reading: which window and iteration, the step, the time, the entry (from 1), the turn that the newest sample comes from, the values
pub record Reading : Type 0 where
  pub window : ℕ
  pub iteration : ℕ
  pub step : ℕ
  pub time : ℕ
  pub entry : ℕ
  pub source_window : ℕ
  pub source_iteration : ℕ
  pub values : List ℤ

-- what is written at the end of a step
pub record Written : Type 0 where
  pub window : ℕ
  pub iteration : ℕ
  pub step : ℕ
  pub time : ℕ
  pub values : List ℤ

-- all that is noted of a participant, in order
pub data Note : Type 0 where
  reads : Reading → Note
  writes : Written → Note
