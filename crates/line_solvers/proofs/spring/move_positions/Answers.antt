use Rattle.std.proofs.Common.{◌≡◌, ◌<◌, ◌*ℤ◌, ℤ, pos, length, subst, sym, ap, arith, ◌∙◌}
use mir.Syntax.{w64}
use mir.Val.{to_z, of_z}
use Rattle.std.proofs.lemmas.Bool.{false≢true}
use Rattle.std.proofs.lemmas.Int.{to_z-of_z}
use Rattle.fixed_num.specs.Numbers.{IsValue}
use Rattle.line_solvers.specs.Components.{component}
use Rattle.line_solvers.specs.Moved.{moved}
use Rattle.line_solvers.specs.SpringStep.{new_position, new_positions}
use Rattle.line_solvers.proofs.Checks.{before-no_value, loop-no_value}
use Rattle.line_solvers.proofs.Moves.{moved_args}
use Rattle.line_solvers.proofs.Sums.{value_back}
use Rattle.line_solvers.proofs.Updates.{still_there, written_more, left_more, values_more}
use Rattle.line_solvers.proofs.spring.move_positions.Goals as goal

pub returns-in_default-clause-cause : goal.returns-in_default-clause-cause
returns-in_default-clause-cause c =
    let xs = c.args.positions.now in
    let vs = c.args.velocities.now in
    let i = c.loop-i.i in
    let velocity = c.requires.velocities i (pos 0) (omega (arith, c.requires.halves, c.loop-i-test.true)) in
    let rate = to_z-of_z w64 c.args.rate c.ranges.rate in
    let slope : c.weighed.result ≡ c.args.rate *ℤ component vs i =
    c.weighed.ensures.product ∙ ap (λ (x : ℤ). x *ℤ to_z w64 (of_z w64 (component vs i))) rate ∙ ap (λ (x : ℤ). c.args.rate *ℤ x) (value_back (component vs i) velocity) in
    let position = c.loop-i.invariant.values i (pos 0) (omega (arith, c.loop-i-test.true, c.loop-i.auto.positions)) in
    let is = moved_args (component c.loop-i.positions i) c.weighed.result c.args.ticks position (record { sfits = c.weighed.type_inv }) slope in
    let at = still_there c.loop-i.positions xs i c.loop-i.invariant.left in
    let after : moved (to_z w64 (of_z w64 (component c.loop-i.positions i))) (to_z mir.Syntax.w128 (of_z mir.Syntax.w128 c.weighed.result)) c.args.ticks ≡ new_position c.args.rate c.args.ticks xs vs i =
    is ∙ ap (λ (x : ℤ). moved x (c.args.rate *ℤ component vs i) c.args.ticks) at in
    let fails = loop-no_value (new_position c.args.rate c.args.ticks xs vs) (length xs) i c.loop-i-test.true (λ value. false≢true (c.in_default.ensures.in_range.1 (subst IsValue (sym after) value))) in
    λ forbid out back. before-no_value forbid out (new_positions c.args.rate c.args.ticks xs vs) back fails

pub loop-i-preserved : goal.loop-i-preserved
loop-i-preserved c =
    let xs = c.args.positions.now in
    let vs = c.args.velocities.now in
    let i = c.loop-i.i in
    let velocity = c.requires.velocities i (pos 0) (omega (arith, c.requires.halves, c.loop-i-test.true)) in
    let slope : c.weighed.result ≡ to_z w64 (of_z w64 c.args.rate) *ℤ component vs i =
    c.weighed.ensures.product ∙ ap (λ (x : ℤ). to_z w64 (of_z w64 c.args.rate) *ℤ x) (value_back (component vs i) velocity) in
    let here : i < length c.loop-i.positions = omega (arith, c.loop-i-test.true, c.loop-i.auto.positions) in
    let position = c.loop-i.invariant.values i (pos 0) here in
    let is = moved_args (component c.loop-i.positions i) c.weighed.result c.args.ticks position (record { sfits = c.weighed.type_inv }) slope in
    let at = still_there c.loop-i.positions xs i c.loop-i.invariant.left in
    let f = new_position (to_z w64 (of_z w64 c.args.rate)) c.args.ticks xs vs in
    let made = c.get.ensures.units ∙ c.in-Some.ensures.same ∙ is ∙ ap (λ (x : ℤ). moved x (to_z w64 (of_z w64 c.args.rate) *ℤ component vs i) c.args.ticks) at in
    record {
      moved = written_more c.loop-i.positions f i c.get.result here c.get.ensures.range made c.loop-i.invariant.moved;
      left = left_more c.loop-i.positions xs i (to_z w64 (of_z w64 c.get.result)) c.loop-i.invariant.left;
      values = values_more c.loop-i.positions i c.get.result c.get.ensures.range c.loop-i.invariant.values;
    }
