-- The coupling of two participants as one plain loop: in each window the first has its turn, then the second. After
-- the coupling documentation's serial-explicit scheme; what a fault leaves to the others is the project's own.
use Rattle.std.specs.Prelude.{ℕ, zero, suc, ◌+◌, Bool, true, false, if◌then◌else◌, List, [], ◌∷◌, ◌++◌, ℤ, pos, Option, Some, None}
use Rattle.solver_trait.specs.Behaviour.{Behaviour}
use Rattle.coupling_run.specs.InputWave.{InputWave, input_wave}
use Rattle.coupling_run.specs.Solve.{Solved, reaches, fails, solve}
use Rattle.coupling_run.specs.declared.fault.Fault.{Fault}

-- a participant: its solver's state, the values that it has given, the initial one first, whether it has stopped, its
-- steps, and the fault that stopped it
pub record Member (State : Type 0) : Type 0 where
  pub state : State
  pub given : List ℤ
  pub has_stopped : Bool
  pub steps : ℕ
  pub fault : Option Fault

-- the fault of a solve, which is the first step of the window's first iteration
abbrev pub fault_in : ℕ → ℕ → ℕ → Fault
fault_in participant window code =
    record { part = participant; window = window; iteration = 1; step = 1; code = code }

-- what a solve makes of a participant: it gives the written value, or it stops
abbrev pub after_solve : {State : Type 0} → ℕ → ℕ → Member State → Solved State → Member State
after_solve participant window member (reaches state value) =
    record member { state = state; given = member.given ++ value ∷ []; steps = member.steps + 1 }
after_solve participant window member (fails code) =
    record member { has_stopped = true; fault = Some (fault_in participant window code) }

-- without its input a participant stops, and has no fault of its own
abbrev pub turn_on : {State : Type 0} → Behaviour State → ℕ → ℕ → Member State → Option InputWave → Member State
turn_on solver participant window member None = record member { has_stopped = true }
turn_on solver participant window member (Some wave) =
    after_solve participant window member (solve solver member.state wave)

-- the turn of a participant in a window, by the values that its partner has given
abbrev pub turn : {State : Type 0} → Behaviour State → ℕ → ℕ → List ℤ → Member State → Member State
turn solver participant window given member =
    if member.has_stopped then member else turn_on solver participant window member (input_wave participant given window)

pub record Coupled (First Second : Type 0) : Type 0 where
  pub first : Member First
  pub second : Member Second

-- one window
abbrev pub coupled_window : {First Second : Type 0} → Behaviour First → Behaviour Second → ℕ → Coupled First Second → Coupled First Second
coupled_window first second window both =
    let next = turn first 0 window both.second.given both.first in
    record { first = next; second = turn second 1 window next.given both.second }

-- windows 1 to n, one after another
abbrev pub coupled_loop : {First Second : Type 0} → Behaviour First → Behaviour Second → Coupled First Second → ℕ → Coupled First Second
coupled_loop first second both zero = both
coupled_loop first second both (suc n) = coupled_window first second (suc n) (coupled_loop first second both n)

-- before window 1 a participant has given zero
abbrev pub opening_member : {State : Type 0} → State → Member State
opening_member state = record { state = state; given = pos 0 ∷ []; has_stopped = false; steps = 0; fault = None }

abbrev pub opening_pair : {First Second : Type 0} → First → Second → Coupled First Second
opening_pair first second = record { first = opening_member first; second = opening_member second }
