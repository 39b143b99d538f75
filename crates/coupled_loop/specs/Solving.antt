-- How a participant solves a window, whatever its solver: it takes inputs, makes one step after another, and has a post, or breaks off. After the coupling documentation's usual loop with its checkpoints; the greatest number of steps is the project's own.
use Rattle.std.specs.Prelude.{ℕ, zero, suc, ◌==◌, if◌then◌else◌, List, ◌++◌, Option, Some, None, Result, Ok, Err}
use Rattle.coupled_loop.specs.Endings.{Ending, early, faulted, Judgement}

-- what a step leads to
pub data Stepped (State Run Post Fault : Type 0) : Type 0 where
  -- the window is not at its end
  goes_on : Run → Stepped State Run Post Fault
  -- it is: the state, and what is posted
  arrives : State → Post → Stepped State Run Post Fault
  -- the solve breaks off in this state, by a fault or without one
  breaks : State → Option Fault → Stepped State Run Post Fault

-- what the participants' solvers do
pub record Solvers (Mesh Post Inputs Fault State Run Note : Type 0) : Type 0 where
  pub meshes : (part : ℕ) → Mesh
  pub start : (part : ℕ) → State
  -- the initial data, by the meshes that the participant receives; or it breaks off
  pub first : (part : ℕ) → List Mesh → State → Result Post (Option Fault)
  -- a solve of window w in iteration k begins from a state, with these inputs
  pub begin : (part w k : ℕ) → List Mesh → State → Inputs → Result Run (Option Fault)
  -- a step, with what is noted of it
  pub step : (part : ℕ) → Run → List Note × Stepped State Run Post Fault
  pub state_of : Run → State
  -- a solve has no more steps than this; why one that is longer breaks off
  pub most_steps : ℕ
  pub too_many : (part w k : ℕ) → Option Fault
  -- what is noted of inputs and of judgements
  pub note_inputs : (part w k : ℕ) → Inputs → List Note
  pub note_judgement : (part w k : ℕ) → Judgement Fault → List Note

-- what a participant holds of its own: the meshes that it has received, its solver's state, that at the start of the window, and all that was noted
pub record Held (Mesh State Note : Type 0) : Type 0 where
  pub received : List Mesh
  pub state : State
  pub kept : State
  pub notes : List Note

-- how a solve ends: with a post, or broken off
abbrev pub Solved : Type 0 → Type 0 → Type 0 → Type 0 → Type 0 → Type 0
Solved Mesh State Note Post Fault = Held Mesh State Note × Result Post (Option Fault)

-- who breaks off ends by the fault, or early
abbrev pub ending_of : {Fault : Type 0} → Option Fault → Ending Fault
ending_of None = early
ending_of (Some fault) = faulted fault

module _ {Mesh State Note : Type 0} where
  abbrev pub notes : List Note → Held Mesh State Note → Held Mesh State Note
  notes more held = record held { notes = held.notes ++ more }

  -- at the first iteration of a window the present state is kept: each iteration starts from it
  abbrev pub keeps : (k : ℕ) → Held Mesh State Note → Held Mesh State Note
  keeps k held = if k == 1 then record held { kept = held.state } else held

module _ {Mesh Post Inputs Fault State Run Note : Type 0} (solvers : Solvers Mesh Post Inputs Fault State Run Note) (part : ℕ) where
  abbrev pub hears_judgement : (w k : ℕ) → Judgement Fault → Held Mesh State Note → Held Mesh State Note
  hears_judgement w k judgement held = notes (solvers.note_judgement part w k judgement) held

  -- what follows a step, where more steps may follow
  abbrev pub after_step : (Run → Held Mesh State Note → Solved Mesh State Note Post Fault) → Stepped State Run Post Fault → Held Mesh State Note → Solved Mesh State Note Post Fault
  after_step more (goes_on next) held = more next held
  after_step more (arrives state post) held = (record held { state = state }, Ok post)
  after_step more (breaks state why) held = (record held { state = state }, Err why)

  -- the steps of a solve, no more than so many
  abbrev pub solve : (w k steps : ℕ) → Run → Held Mesh State Note → Solved Mesh State Note Post Fault
  solve w k zero run held = (record held { state = solvers.state_of run }, Err (solvers.too_many part w k))
  solve w k (suc steps) run held =
      let stepped = solvers.step part run in after_step (solve w k steps) stepped.1 (notes stepped.0 held)

  -- what a participant holds at the start of a solve
  abbrev pub hears_inputs : (w k : ℕ) → Inputs → Held Mesh State Note → Held Mesh State Note
  hears_inputs w k inputs held = keeps k (notes (solvers.note_inputs part w k inputs) held)

  -- a solve that could begin, or not
  abbrev pub begins : (w k : ℕ) → Inputs → Held Mesh State Note → Result Run (Option Fault)
  begins w k inputs held = solvers.begin part w k held.received held.kept inputs

  abbrev pub solve_from : (w k : ℕ) → Result Run (Option Fault) → Held Mesh State Note → Solved Mesh State Note Post Fault
  solve_from w k (Ok run) held = solve w k solvers.most_steps run held
  solve_from w k (Err why) held = (held, Err why)

  -- a solve from its inputs to its end
  abbrev pub solves : (w k : ℕ) → Inputs → Held Mesh State Note → Solved Mesh State Note Post Fault
  solves w k inputs held = let heard = hears_inputs w k inputs held in solve_from w k (begins w k inputs heard) heard
