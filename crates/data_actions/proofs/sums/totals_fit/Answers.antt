use Rattle.std.proofs.Common.{ℤ, sym, ap, ◌∙◌}
use mir.Syntax.{w128}
use Rattle.std.proofs.lemmas.Int.{to_z-of_z}
use Rattle.fixed_num.specs.Numbers.{is_value}
use Rattle.data_actions.specs.Totals.{total}
use Rattle.data_actions.proofs.Stretches.{test_more, test_fails}
use Rattle.data_actions.proofs.sums.totals_fit.Goals as goal

pub returns-then-not-is_value : goal.returns-then-not-is_value
returns-then-not-is_value c =
    let read = to_z-of_z w128 c.total_at.result (record { sfits = c.total_at.type_inv }) ∙ c.total_at.ensures in
    let is = c.is_value.ensures ∙ ap (λ (x : ℤ). is_value x) read in
    sym
    (test_fails (λ offset. is_value (total c.args.sum.now c.args.values.now offset)) c.args.sum.now.length c.loop-offset.offset c.loop-offset-test.true
    (sym is ∙ c.if-not-is_value.true))

pub loop-offset-preserved : goal.loop-offset-preserved
loop-offset-preserved c =
    let read = to_z-of_z w128 c.total_at.result (record { sfits = c.total_at.type_inv }) ∙ c.total_at.ensures in
    let is = c.is_value.ensures ∙ ap (λ (x : ℤ). is_value x) read in
    test_more (λ offset. is_value (total c.args.sum.now c.args.values.now offset)) c.loop-offset.offset c.loop-offset.invariant
    (sym is ∙ c.if-not-is_value.false)
