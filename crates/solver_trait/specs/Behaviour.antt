-- What a solver does, as functions of its state. The coupling documentation leaves solvers to their authors: this is the project's own.
use Rattle.std.specs.Prelude.{ℕ, Bool, List, ℤ}

-- what a step leads to
pub data Next (State : Type 0) : Type 0 where
  -- the state after it, and the written values
  goes_on : State → List ℤ → Next State
  -- a fault with this code, which changes nothing
  faults : ℕ → Next State

-- what the solvers of one spec do
pub record Behaviour (State : Type 0) : Type 0 where
  -- how many values a step reads, and how many it writes
  pub read_len : ℕ
  pub write_len : ℕ
  -- the step that it takes where so many ticks are left
  pub pick : State → ℕ → ℕ
  -- whether a step reads its inputs at its end, and not at its start
  pub reads_at_end : State → Bool
  -- the values that it writes before its first step
  pub first : State → List ℤ
  -- the step of so many ticks that reads these values
  pub next : State → ℕ → List ℤ → Next State
