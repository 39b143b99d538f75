use Rattle.std.proofs.Common.{◌≡◌, is_some, true, sym, ap, ◌∙◌, arith, add-one}
use Rattle.pair_core.specs.CoreState.{state_after}
use Rattle.coupling_run.specs.CoupledLoop.{opening_pair}
use Rattle.coupling_run.specs.LoopResults.{results_of}
use Rattle.coupling_run.proofs.Windows.{first_ready, second_ready, window_done, ended_loop}
use Rattle.coupling_run.proofs.driver.run_windows.Goals as goal

pub returns-then-is_some-2 : goal.returns-then-is_some-2
returns-then-is_some-2 g c =
    let a = g.A.Solver in
    let b = g.B.Solver in
    let (history, stands, progress) = c.loop-window.invariant.progress in
    let state = state_after c.args.windows history in
    let ended_1 : is_some state.first.ending ≡ true = ap is_some (sym (c.ending.ensures.state c.args.windows history stands)) ∙ sym c.is_some.ensures ∙ c.if-is_some.true in
    let ended_2 : is_some state.second.ending ≡ true = ap is_some (sym (c.ending-then-is_some.ensures.state c.args.windows history stands)) ∙ sym c.is_some-then-is_some.ensures ∙ c.if-is_some-2.true in
    record {
      results = ap results_of (ended_loop (a.behaviour (a.spec c.args.first.now)) (b.behaviour (b.spec c.args.second.now)) (opening_pair (a.state c.args.first.now) (b.state c.args.second.now)) c.args.windows c.loop-window._window state (a.state c.loop-window.first) (b.state c.loop-window.second) c.loop-window.first_tally c.loop-window.second_tally c.loop-window.second_tally.before (omega arith) progress ended_1 ended_2);
      first_spec = c.loop-window.invariant.first_spec;
      second_spec = c.loop-window.invariant.second_spec;
    }

pub turn-requires-in-loop-window-clause-ready : goal.turn-requires-in-loop-window-clause-ready
turn-requires-in-loop-window-clause-ready g c κs within =
    let a = g.A.Solver in
    let b = g.B.Solver in
    let (history, stands, progress) = c.loop-window.invariant.progress in
    let first = a.behaviour (a.spec c.args.first.now) in
    let second = b.behaviour (b.spec c.args.second.now) in
    let start = opening_pair (a.state c.args.first.now) (b.state c.args.second.now) in
    let state = state_after c.args.windows history in
    let ready = first_ready first second start c.args.windows c.loop-window._window state (a.state c.loop-window.first) (b.state c.loop-window.second) c.loop-window.first_tally c.loop-window.second_tally c.loop-window-test.true progress c.loop-window.first_tally.before in
    let (next_history, next_stands, has_turned) = c.in_ok-turn.ensures.turned c.args.windows history stands ready in
    let turned = rw c.loop-window.invariant.first_spec at has_turned in
    (c.args.windows, next_history, next_stands, second_ready first second start c.args.windows c.loop-window._window state (a.state c.loop-window.first) (b.state c.loop-window.second) c.loop-window.first_tally c.loop-window.second_tally c.loop-window-test.true progress (state_after c.args.windows next_history) (a.state c.turn.new.solver) c.turn.new.tally turned)

pub loop-window-preserved : goal.loop-window-preserved
loop-window-preserved g c =
    let a = g.A.Solver in
    let b = g.B.Solver in
    let (history, stands, progress) = c.loop-window.invariant.progress in
    let first = a.behaviour (a.spec c.args.first.now) in
    let second = b.behaviour (b.spec c.args.second.now) in
    let start = opening_pair (a.state c.args.first.now) (b.state c.args.second.now) in
    let state = state_after c.args.windows history in
    let ready = first_ready first second start c.args.windows c.loop-window._window state (a.state c.loop-window.first) (b.state c.loop-window.second) c.loop-window.first_tally c.loop-window.second_tally c.loop-window-test.true progress c.loop-window.first_tally.before in
    let (next_history, next_stands, has_turned) = c.in_ok-turn.ensures.turned c.args.windows history stands ready in
    let turned = rw c.loop-window.invariant.first_spec at has_turned in
    let next = state_after c.args.windows next_history in
    let ready_2 = second_ready first second start c.args.windows c.loop-window._window state (a.state c.loop-window.first) (b.state c.loop-window.second) c.loop-window.first_tally c.loop-window.second_tally c.loop-window-test.true progress next (a.state c.turn.new.solver) c.turn.new.tally turned in
    let (last_history, last_stands, has_turned_2) = c.in_ok-turn-2.ensures.turned c.args.windows next_history next_stands ready_2 in
    let turned_2 = rw c.loop-window.invariant.second_spec at has_turned_2 in
    let done = window_done first second start c.args.windows c.loop-window._window state (a.state c.loop-window.first) (b.state c.loop-window.second) c.loop-window.first_tally c.loop-window.second_tally c.loop-window-test.true progress next (a.state c.turn.new.solver) c.turn.new.tally turned (state_after c.args.windows last_history) (b.state c.turn-in-loop-window.new.solver) c.turn-in-loop-window.new.tally turned_2 in
    record {
      first_spec = c.in_ok-turn.ensures.same_spec ∙ c.loop-window.invariant.first_spec;
      second_spec = c.in_ok-turn-2.ensures.same_spec ∙ c.loop-window.invariant.second_spec;
      first_steps = omega (arith, c.in_ok-turn.ensures.one_step, c.loop-window.invariant.first_steps);
      second_steps = omega (arith, c.in_ok-turn-2.ensures.one_step, c.loop-window.invariant.second_steps);
      progress = (last_history, last_stands, rw add-one done);
    }
