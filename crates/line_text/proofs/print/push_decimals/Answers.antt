use Rattle.std.proofs.Common.{◌<◌, arith, refl}
use Rattle.line_text.proofs.Decimals.{weight_above, digit_below, digit_moves, all_written, rest_below}
use Rattle.line_text.proofs.print.push_decimals.Goals as goal

pub nonzero_div-left : goal.nonzero_div-left
nonzero_div-left c = omega (arith, weight_above _ _ c.pow-weight.ensures)

pub nonzero_rem-left : goal.nonzero_rem-left
nonzero_rem-left c = omega (arith, weight_above _ _ c.pow-weight.ensures)

pub overflow_cast-left : goal.overflow_cast-left
overflow_cast-left c =
    omega (arith, digit_below c.loop-left.places c.loop-left.left _ (omega (arith, c.loop-left-test.true)) c.loop-left.invariant.1 c.pow-weight.ensures)

pub push_digit-requires : goal.push_digit-requires
push_digit-requires c =
    digit_below c.loop-left.places c.loop-left.left _ (omega (arith, c.loop-left-test.true)) c.loop-left.invariant.1 c.pow-weight.ensures

pub loop-left-preserved : goal.loop-left-preserved
loop-left-preserved c =
    let some : 0 < c.loop-left.left = omega (arith, c.loop-left-test.true) in (
      omega (arith, c.loop-left.invariant.0),
      rest_below c.loop-left.places c.loop-left.left _ c.pow-weight.ensures,
      digit_moves c.loop-left.places c.loop-left.left _ _ _ _ _ some c.loop-left.invariant.1 c.pow-weight.ensures
          refl c.in_ok-push_digit.ensures c.loop-left.invariant.2,
    )

pub returns : goal.returns
returns c = all_written c.loop-left.places c.loop-left.left _ _ c.loop-left-test.false c.loop-left.invariant.2
