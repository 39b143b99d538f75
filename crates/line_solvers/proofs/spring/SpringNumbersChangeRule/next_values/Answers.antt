use Rattle.std.proofs.Common.{ℤ, List, length, ap, ◌∙◌}
use Rattle.std.proofs.lemmas.Result.{IfOk-weaker}
use Rattle.line_solvers.proofs.Halves.{length-spring}
use Rattle.line_solvers.proofs.spring.SpringNumbersChangeRule.next_values.Goals as goal

pub returns-clause-size : goal.returns-clause-size
returns-clause-size c =
    let all = length-spring c.args.self.now c.args.ticks c.args.state.now c.args.inputs.now c.requires.suits.halves in
    IfOk-weaker c.next_values.result _ _ (λ next is. ap (λ (xs : List ℤ). length xs) is ∙ all) c.next_values.ensures.components
