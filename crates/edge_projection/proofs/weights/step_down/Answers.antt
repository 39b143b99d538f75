use Rattle.std.proofs.Common.{arith}
use Rattle.edge_projection.proofs.Convex.{least_weight}
use Rattle.edge_projection.proofs.weights.step_down.Goals as goal

pub returns-then-square_off : goal.returns-then-square_off
returns-then-square_off c =
    least_weight c.args.p.now c.args.a.now c.args.b.now c.loop-weight.weight c.loop-weight.invariant.weight c.loop-weight.invariant.no_nearer
    (λ _. omega (arith, c.if-square_off.true, c.square_off.ensures.value, c.square_off-in-loop-weight.ensures.value))

pub returns : goal.returns
returns c =
    least_weight c.args.p.now c.args.a.now c.args.b.now c.loop-weight.weight c.loop-weight.invariant.weight c.loop-weight.invariant.no_nearer
    (λ some. absurd (omega (arith, some, c.loop-weight-test.false)))
