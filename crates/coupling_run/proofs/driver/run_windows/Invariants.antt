use Rattle.std.proofs.Common.{◌≡◌, ◌≤◌}
use Rattle.pair_core.specs.CoreState.{History, state_after}
use Rattle.pair_core.specs.StandsFor.{StandsFor}
use Rattle.coupling_run.specs.CoupledLoop.{opening_pair}
use Rattle.coupling_run.specs.Turn.{member_of}
use Rattle.coupling_run.proofs.Windows.{Progress}
use Rattle.coupling_run.proofs.driver.run_windows.Given as goal

abbrev pub invariant-loop-window : goal.invariant-loop-window
invariant-loop-window g l =
    let a = g.A.Solver in
    let b = g.B.Solver in
    record {
      first_spec : a.spec l.first ≡ a.spec l.fn.first;
      second_spec : b.spec l.second ≡ b.spec l.fn.second;
      first_steps : l.first_tally.steps ≤ l._window;
      second_steps : l.second_tally.steps ≤ l._window;
      progress : (history : History) × StandsFor l.windows l.core history
          × Progress (a.behaviour (a.spec l.fn.first)) (b.behaviour (b.spec l.fn.second)) (opening_pair (a.state l.fn.first) (b.state l.fn.second)) l._window (state_after l.windows history)
          (record { first = member_of (a.state l.first) l.first_tally (state_after l.windows history).first; second = member_of (b.state l.second) l.second_tally (state_after l.windows history).second }) l.second_tally.before;
    }
