-- What the driver asks of its solvers, and what it leaves, as the loop's results. The project's own.
use Rattle.std.specs.Prelude.{◌≡◌, ℕ, [], ◌∷◌, false, pos, None}
use Rattle.pair_core.specs.CoreState.{PartState, History, state_after}
use Rattle.pair_core.specs.Kept.{Kept}
use Rattle.pair_core.specs.StandsFor.{StandsFor}
use Rattle.solver_trait.specs.Behaviour.{Behaviour}
use Rattle.coupling_run.specs.LoopResults.{LoopResults, earlier_fault}
use Rattle.coupling_run.specs.Solve.{window_ticks}
use Rattle.coupling_run.specs.declared.driver.RunEnd.{RunEnd}
use Rattle.coupling_run.specs.declared.turn.Tally.{Tally}

-- one value is read and one written, and one step takes a whole window
pub record TakesWindowsWhole {State : Type 0} (solver : Behaviour State) : Type 0 where
  pub reads_one : solver.read_len ≡ 1
  pub writes_one : solver.write_len ≡ 1
  pub one_step : (state : State) → solver.pick state window_ticks ≡ window_ticks

-- the results of a run that leaves the solvers in these states
abbrev pub run_end : {First Second : Type 0} → First → Second → RunEnd → LoopResults First Second
run_end first second end =
    record { first_state = first; second_state = second; first_steps = end.first_steps; second_steps = end.second_steps; fault = end.fault }

-- the results of two participants in these states, with these tallies
abbrev pub tallied_results : {First Second : Type 0} → First → Tally → Second → Tally → LoopResults First Second
tallied_results first first_tally second second_tally =
    record { first_state = first; second_state = second; first_steps = first_tally.steps; second_steps = second_tally.steps; fault = earlier_fault first_tally.fault second_tally.fault }

-- a participant that has posted zero and nothing else
abbrev pub opened_part : PartState
opened_part = record { posts = pos 0 ∷ []; taken = false; ending = None }

-- both participants have posted zero
abbrev pub IsOpened : ℕ → Kept → Type 0
IsOpened windows kept =
    (history : History) × StandsFor windows kept history × (state_after windows history ≡ record { first = opened_part; second = opened_part })
