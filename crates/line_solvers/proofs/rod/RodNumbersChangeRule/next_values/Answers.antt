use Rattle.std.proofs.Common.{ℤ, List, length, ap, ◌∙◌}
use Rattle.std.proofs.lemmas.Result.{IfOk-weaker}
use Rattle.std.proofs.lemmas.List.FromFn.{length-map-range_with_len}
use Rattle.line_solvers.specs.RodStep.{rod_component}
use Rattle.line_solvers.proofs.rod.RodNumbersChangeRule.next_values.Goals as goal

pub returns-clause-size : goal.returns-clause-size
returns-clause-size c =
    let all = length-map-range_with_len (rod_component c.args.self.now c.args.ticks c.args.state.now c.args.inputs.now) 0 (length c.args.state.now) in
    IfOk-weaker c.next_values.result _ _ (λ next is. ap (λ (xs : List ℤ). length xs) is ∙ all) c.next_values.ensures.components
