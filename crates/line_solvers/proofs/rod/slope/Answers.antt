use Rattle.std.proofs.Common.{ℤ, ◌+ℤ◌, ◌*ℤ◌, ap, ◌∙◌}
use Rattle.line_solvers.specs.RodStep.{bend}
use Rattle.line_solvers.proofs.Sums.{factor_product, two_fit, two_back}
use Rattle.line_solvers.proofs.rod.slope.Goals as goal

pub overflow_add-result : goal.overflow_add-result
overflow_add-result c =
    two_fit c.weighed.result c.weighed-2.result (record { sfits = c.weighed.type_inv }) (record { sfits = c.weighed-2.type_inv }) c.weighed.ensures.bound c.weighed-2.ensures.bound

pub returns : goal.returns
returns c =
    let alpha = c.weighed.ensures.product ∙ factor_product c.args.rod.now.alpha c.bend.result c.requires.numbers.alpha (record { sfits = c.bend.type_inv }) c.bend.ensures in
    let beta = c.weighed-2.ensures.product ∙ factor_product c.args.rod.now.beta c.pull.result c.requires.numbers.beta (record { sfits = c.pull.type_inv }) c.pull.ensures in
    two_back c.weighed.result c.weighed-2.result (record { sfits = c.weighed.type_inv }) (record { sfits = c.weighed-2.type_inv }) c.weighed.ensures.bound c.weighed-2.ensures.bound
    ∙ ap (λ (x : ℤ). x +ℤ c.weighed-2.result) alpha
    ∙ ap (λ (x : ℤ). c.args.rod.now.alpha *ℤ bend c.args.state.now c.args.i +ℤ x) beta
