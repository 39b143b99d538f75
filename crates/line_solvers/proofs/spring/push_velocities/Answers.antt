use Rattle.std.proofs.Common.{pos, subst, sym, arith, ◌∙◌}
use Rattle.std.proofs.lemmas.Bool.{false≢true}
use Rattle.fixed_num.specs.Numbers.{IsValue}
use Rattle.line_solvers.specs.Components.{component}
use Rattle.line_solvers.specs.SpringStep.{new_velocity, new_velocities}
use Rattle.line_solvers.proofs.Checks.{behind-no_value, loop-no_value, push_is, push_values}
use Rattle.line_solvers.proofs.Moves.{moved_args}
use Rattle.line_solvers.proofs.spring.push_velocities.Goals as goal

pub returns-in_default-clause-cause : goal.returns-in_default-clause-cause
returns-in_default-clause-cause c =
    let value = c.requires.velocities c.loop-i.i (pos 0) (omega (arith, c.loop-i-test.true, c.requires.halves)) in
    let is = moved_args (component c.args.velocities.now c.loop-i.i) c.slope-slope.result c.args.ticks value (record { sfits = c.slope-slope.type_inv }) c.slope-slope.ensures in
    let f = new_velocity c.args.spring.now c.args.ticks c.args.positions.now c.args.velocities.now c.args.inputs.now in
    λ forbid out front. behind-no_value forbid out front (new_velocities c.args.spring.now c.args.ticks c.args.positions.now c.args.velocities.now c.args.inputs.now)
    (loop-no_value f _ c.loop-i.i c.loop-i-test.true (λ after. false≢true (c.in_default.ensures.in_range.1 (subst IsValue (sym is) after))))

pub loop-i-preserved : goal.loop-i-preserved
loop-i-preserved c =
    let value = c.requires.velocities c.loop-i.i (pos 0) (omega (arith, c.loop-i-test.true, c.requires.halves)) in
    let is = moved_args (component c.args.velocities.now c.loop-i.i) c.slope-slope.result c.args.ticks value (record { sfits = c.slope-slope.type_inv }) c.slope-slope.ensures in
    let f = new_velocity c.args.spring.now c.args.ticks c.args.positions.now c.args.velocities.now c.args.inputs.now in (
      push_is c.args.next.now.items c.loop-i.next.items c.push.new.self.items f c.loop-i.i c.get.result c.get.ensures.range (c.get.ensures.units ∙ c.in-Some.ensures.same ∙ is) c.in_ok-push.ensures.items c.loop-i.invariant.0,
      push_values c.loop-i.next.items c.push.new.self.items c.get.result c.get.ensures.range c.in_ok-push.ensures.items c.loop-i.invariant.1,
    )
