use Rattle.std.proofs.Common.{ℤ, pos, ◌+ℤ◌, ◌-ℤ◌, ◌*ℤ◌, refl, ap, ◌∙◌, arith}
use Rattle.line_solvers.specs.Components.{component}
use Rattle.line_solvers.specs.SpringStep.{bend}
use Rattle.line_solvers.proofs.Sums.{value_fits, factor_product, apart_fit, three_fit, three_back}
use Rattle.line_solvers.proofs.spring.slope.Goals as goal

pub overflow_sub-result : goal.overflow_sub-result
overflow_sub-result c =
    apart_fit c.weighed.result c.weighed-2.result (record { sfits = c.weighed.type_inv }) (record { sfits = c.weighed-2.type_inv }) c.weighed.ensures.bound c.weighed-2.ensures.bound

pub overflow_add-result : goal.overflow_add-result
overflow_add-result c =
    three_fit c.weighed.result c.weighed-2.result c.weighed-3.result
    (record { sfits = c.weighed.type_inv }) (record { sfits = c.weighed-2.type_inv }) (record { sfits = c.weighed-3.type_inv })
    c.weighed.ensures.bound c.weighed-2.ensures.bound c.weighed-3.ensures.bound

pub returns : goal.returns
returns c =
    let spring = c.args.spring.now in
    let xs = c.args.positions.now in
    let i = c.args.i in
    let stiff = c.weighed.ensures.product ∙ factor_product spring.stiff c.bend.result c.requires.numbers.stiff (record { sfits = c.bend.type_inv }) c.bend.ensures in
    let velocity = value_fits (component c.args.velocities.now i) (c.requires.velocities i (pos 0) (omega (arith, c.requires.place, c.requires.halves))) in
    let damp = c.weighed-2.ensures.product ∙ factor_product spring.damp (component c.args.velocities.now i) c.requires.numbers.damp velocity refl in
    let gain = c.weighed-3.ensures.product ∙ factor_product spring.gain c.push.result c.requires.numbers.gain (record { sfits = c.push.type_inv }) c.push.ensures in
    three_back c.weighed.result c.weighed-2.result c.weighed-3.result
    (record { sfits = c.weighed.type_inv }) (record { sfits = c.weighed-2.type_inv }) (record { sfits = c.weighed-3.type_inv })
    c.weighed.ensures.bound c.weighed-2.ensures.bound c.weighed-3.ensures.bound
    ∙ ap (λ (x : ℤ). (x -ℤ c.weighed-2.result) +ℤ c.weighed-3.result) stiff
    ∙ ap (λ (x : ℤ). (spring.stiff *ℤ bend xs i -ℤ x) +ℤ c.weighed-3.result) damp
    ∙ ap (λ (x : ℤ). (spring.stiff *ℤ bend xs i -ℤ (spring.damp *ℤ component c.args.velocities.now i)) +ℤ x) gain
