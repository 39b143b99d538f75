use Rattle.std.proofs.Common.{rules, sym, ◌∙◌}
use Rattle.std.proofs.lemmas.Result.{on_ok_weaker}
use Rattle.coupling_run.proofs.Turns.{turned-cut, turned-solved, running_in}
use Rattle.coupling_run.proofs.turn.take_turn.Goals as goal

pub returns-in-Some-clause-turned : goal.returns-in-Some-clause-turned
returns-in-Some-clause-turned g c =
    on_ok_weaker c.advance.result (λ solved windows h stands at_turn. turned-solved (g.S.Solver.behaviour (g.S.Solver.spec c.args.solver.now)) windows h c.advance.new.core c.args.p (g.S.Solver.state c.args.solver.now) (g.S.Solver.state c.advance.new.solver) c.args.tally.now c.advance.new.tally c.in-Some.input c.requires.participant (running_in windows c.args.core.now h c.args.p c.requires.participant stands (search rules)) (sym (c.in_ok-input.ensures.input windows h stands) ∙ c.in-Some.is) at_turn (solved windows _ (c.in_ok-input.ensures.stands windows h stands))) c.advance.ensures.solved

pub returns-in-None-clause-turned : goal.returns-in-None-clause-turned
returns-in-None-clause-turned g c =
    λ windows h stands at_turn. turned-cut (g.S.Solver.behaviour (g.S.Solver.spec c.args.solver.now)) windows h c.take.new.core c.args.p (g.S.Solver.state c.args.solver.now) c.args.tally.now c.requires.participant (running_in windows c.args.core.now h c.args.p c.requires.participant stands (search rules)) (sym (c.in_ok-input.ensures.input windows h stands) ∙ c.in-None.is) at_turn (c.in_ok-input.ensures.stands windows h stands)
