use Rattle.std.proofs.Common.{[], pos, subst, sym, ◌∙◌}
use Rattle.std.proofs.lemmas.Bool.{false≢true}
use Rattle.fixed_num.specs.Numbers.{IsValue}
use Rattle.line_solvers.specs.Components.{component}
use Rattle.line_solvers.specs.RodStep.{rod_component, rod_components}
use Rattle.line_solvers.proofs.Checks.{checked-no_value, loop-no_value, push_is, push_values}
use Rattle.line_solvers.proofs.Moves.{moved_args}
use Rattle.line_solvers.proofs.rod.next_values.Goals as goal

pub returns-in_default-clause-cause : goal.returns-in_default-clause-cause
returns-in_default-clause-cause c =
    let value = c.requires.state c.loop-i.i (pos 0) c.loop-i-test.true in
    let is = moved_args (component c.args.state.now c.loop-i.i) c.slope.result c.args.ticks value (record { sfits = c.slope.type_inv }) c.slope.ensures in
    let f = rod_component c.args.rod.now c.args.ticks c.args.state.now c.args.inputs.now in
    λ forbid out. checked-no_value forbid out (rod_components c.args.rod.now c.args.ticks c.args.state.now c.args.inputs.now)
    (loop-no_value f _ c.loop-i.i c.loop-i-test.true (λ after. false≢true (c.in_default.ensures.in_range.1 (subst IsValue (sym is) after))))

pub loop-i-preserved : goal.loop-i-preserved
loop-i-preserved c =
    let value = c.requires.state c.loop-i.i (pos 0) c.loop-i-test.true in
    let is = moved_args (component c.args.state.now c.loop-i.i) c.slope.result c.args.ticks value (record { sfits = c.slope.type_inv }) c.slope.ensures in
    let f = rod_component c.args.rod.now c.args.ticks c.args.state.now c.args.inputs.now in (
      push_is [] c.loop-i.next.items c.push.new.self.items f c.loop-i.i c.get.result c.get.ensures.range (c.get.ensures.units ∙ c.in-Some.ensures.same ∙ is) c.in_ok-push.ensures.items c.loop-i.invariant.0,
      push_values c.loop-i.next.items c.push.new.self.items c.get.result c.get.ensures.range c.in_ok-push.ensures.items c.loop-i.invariant.1,
    )
