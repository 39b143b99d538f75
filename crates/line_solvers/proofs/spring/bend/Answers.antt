use Rattle.std.proofs.Common.{◌∙◌, ℤ, pos, ◌+ℤ◌, ◌-ℤ◌, ◌*ℤ◌, ap}
use Rattle.line_solvers.specs.Components.{component}
use Rattle.line_solvers.specs.SpringStep.{before}
use Rattle.line_solvers.proofs.Sums.{bend_fits, bend_back}
use Rattle.line_solvers.proofs.spring.bend.Goals as goal

pub overflow_add-result : goal.overflow_add-result
overflow_add-result c =
    bend_fits c.neighbour_before.result (component c.args.positions.now c.args.i) c.neighbour_after.result
    c.neighbour_before.ensures.value (c.requires.positions c.args.i (pos 0) c.requires.place) c.neighbour_after.ensures.value

pub returns : goal.returns
returns c =
    bend_back c.neighbour_before.result (component c.args.positions.now c.args.i) c.neighbour_after.result
    c.neighbour_before.ensures.value (c.requires.positions c.args.i (pos 0) c.requires.place) c.neighbour_after.ensures.value
    ∙ ap (λ (x : ℤ). (x -ℤ (pos 2 *ℤ component c.args.positions.now c.args.i)) +ℤ c.neighbour_after.result) c.neighbour_before.ensures.neighbour
    ∙ ap (λ (x : ℤ). (before c.args.positions.now c.args.i -ℤ (pos 2 *ℤ component c.args.positions.now c.args.i)) +ℤ x) c.neighbour_after.ensures.neighbour
