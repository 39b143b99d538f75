use Rattle.std.proofs.Common.{◌≡◌, subst, sym, ◌∙◌, ℤ}
use mir.Syntax.{w128}
use mir.Val.{SFits, to_z, of_z}
use Rattle.std.proofs.lemmas.Int.{to_z-of_z}
use Rattle.std.proofs.lemmas.Bool.{false≢true}
use Rattle.fixed_num.specs.Numbers.{IsValue}
use Rattle.line_solvers.specs.RowsStep.{rows_components}
use Rattle.line_solvers.proofs.Checks.{checked-no_value, row-no_value, row_more, push_values}
use Rattle.line_solvers.proofs.rows.next_values.Goals as goal

-- a component is read back as it was computed
component_is : (component : ℤ) {meant : ℤ} → SFits w128 component → component ≡ meant → to_z w128 (of_z w128 component) ≡ meant
component_is component fits is = to_z-of_z w128 component fits ∙ is

pub returns-in_default-clause-cause : goal.returns-in_default-clause-cause
returns-in_default-clause-cause c =
    let is = component_is c.component_of.result (record { sfits = c.component_of.type_inv }) c.component_of.ensures in
    λ forbid out. checked-no_value forbid out (rows_components c.args.rows.now c.args.state.now c.args.inputs.now)
    (row-no_value c.args.rows.now c.args.state.now c.args.inputs.now c.loop-row.row-index c.row-item.result c.loop-row-test.true c.row-item.is
    (λ value. false≢true (c.in_default.ensures.in_range.1 (subst IsValue (sym is) value))))

pub loop-row-preserved : goal.loop-row-preserved
loop-row-preserved c =
    let is = component_is c.component_of.result (record { sfits = c.component_of.type_inv }) c.component_of.ensures in (
      row_more c.args.rows.now c.args.state.now c.args.inputs.now c.loop-row.row-index c.row-item.result c.loop-row-test.true c.row-item.is
          c.loop-row.next.items c.push.new.self.items c.get.result c.get.ensures.range (c.get.ensures.units ∙ c.in-Some.ensures.same ∙ is) c.in_ok-push.ensures.items c.loop-row.invariant.0,
      push_values c.loop-row.next.items c.push.new.self.items c.get.result c.get.ensures.range c.in_ok-push.ensures.items c.loop-row.invariant.1,
    )
