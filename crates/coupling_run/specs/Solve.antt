-- One solve of a window: pick a step, read, step, write. The coupling documentation's usual loop, for windows of ten
-- ticks that a solver takes in one step.
use Rattle.std.specs.Prelude.{ℕ, Bool, if◌then◌else◌, [], ◌∷◌, ℤ, pos}
use Rattle.std.specs.List.{slice_index_or}
use Rattle.solver_trait.specs.Behaviour.{Behaviour, Next, goes_on, faults}
use Rattle.coupling_run.specs.InputWave.{InputWave}

-- the ticks of a window
abbrev pub window_ticks : ℕ
window_ticks = 10

-- what a step reads of its input: the value at its end, or the one at its start
abbrev pub reading_of : Bool → InputWave → ℤ
reading_of at_end wave = if at_end then wave.at_end else wave.at_start

-- what a solve leads to
pub data Solved (State : Type 0) : Type 0 where
  -- the state and the written value at the end of the window
  reaches : State → ℤ → Solved State
  -- a fault with this code
  fails : ℕ → Solved State

abbrev pub solved_by : {State : Type 0} → Next State → Solved State
solved_by (goes_on state writes) = reaches state (slice_index_or writes 0 (pos 0))
solved_by (faults code) = fails code

-- the one step, of the ticks that the solver picks of the window's
abbrev pub solve : {State : Type 0} → Behaviour State → State → InputWave → Solved State
solve solver state wave =
    solved_by (solver.next state (solver.pick state window_ticks) (reading_of (solver.reads_at_end state) wave ∷ []))
