-- What the loop leaves: each participant's last state and steps, and the fault that the loop meets first. The project's
-- own.
use Rattle.std.specs.Prelude.{ℕ, nat_lt, if◌then◌else◌, Option, Some, None}
use Rattle.solver_trait.specs.Behaviour.{Behaviour}
use Rattle.coupling_run.specs.CoupledLoop.{Coupled, coupled_loop, opening_pair}
use Rattle.coupling_run.specs.declared.fault.Fault.{Fault}

pub record LoopResults (First Second : Type 0) : Type 0 where
  pub first_state : First
  pub second_state : Second
  pub first_steps : ℕ
  pub second_steps : ℕ
  pub fault : Option Fault

-- of the first's fault and the second's, the one of the earlier window, and in one window the first's
abbrev pub earlier_fault : Option Fault → Option Fault → Option Fault
earlier_fault None second = second
earlier_fault (Some first) None = Some first
earlier_fault (Some first) (Some second) = if nat_lt second.window first.window then Some second else Some first

abbrev pub results_of : {First Second : Type 0} → Coupled First Second → LoopResults First Second
results_of both =
    record {
      first_state = both.first.state;
      second_state = both.second.state;
      first_steps = both.first.steps;
      second_steps = both.second.steps;
      fault = earlier_fault both.first.fault both.second.fault;
    }

-- the results of so many windows, from the solvers' states
abbrev pub loop_results : {First Second : Type 0} → Behaviour First → Behaviour Second → First → Second → ℕ → LoopResults First Second
loop_results first second first_state second_state windows =
    results_of (coupled_loop first second (opening_pair first_state second_state) windows)
