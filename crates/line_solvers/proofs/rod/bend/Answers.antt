use Rattle.std.proofs.Common.{pos, arith, ◌∙◌}
use Rattle.fixed_num.specs.Numbers.{IsValue}
use Rattle.line_solvers.specs.Components.{component}
use Rattle.line_solvers.proofs.Sums.{bend_fits, bend_back}
use Rattle.line_solvers.proofs.rod.bend.Goals as goal

in_before : (c : goal.After-result-1) → IsValue (component c.args.state.now c.saturating_sub.result)
in_before c = c.requires.state c.saturating_sub.result (pos 0) (omega (arith, c.requires.place, c.saturating_sub.ensures))

in_after : (c : goal.After-result-1) → IsValue (component c.args.state.now c.min.result)
in_after c = c.requires.state c.min.result (pos 0) (omega (arith, c.requires.place, c.min.ensures))

pub overflow_add-result : goal.overflow_add-result
overflow_add-result c =
    bend_fits (component c.args.state.now c.saturating_sub.result) (component c.args.state.now c.args.i) (component c.args.state.now c.min.result)
    (in_before c) (c.requires.state c.args.i (pos 0) c.requires.place) (in_after c)

pub returns : goal.returns
returns c =
    bend_back (component c.args.state.now c.saturating_sub.result) (component c.args.state.now c.args.i) (component c.args.state.now c.min.result)
    (in_before c) (c.requires.state c.args.i (pos 0) c.requires.place) (in_after c)
    ∙ rw (c.saturating_sub.ensures, c.min.ensures)
