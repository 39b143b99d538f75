use Rattle.std.proofs.Common.{◌≡◌, ◌++◌, drop, map}
use Rattle.watch_log.specs.ReportText.{participants_text}
use Rattle.watch_log.proofs.report.push_participants.Given as goal

abbrev pub invariant-loop-p : goal.invariant-loop-p
invariant-loop-p l =
    l.text.items ++ participants_text l.plan l.p (drop l.p l.steps) (drop l.p (map (λ state. state.items) l.states))
    ≡ l.fn.text.items ++ participants_text l.plan 0 l.steps (map (λ state. state.items) l.states)
