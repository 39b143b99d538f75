use Rattle.line_text.proofs.Digits.{digit_low, capped_more}
use Rattle.line_text.proofs.read.capped_number.Goals as goal

pub overflow_sub-digit : goal.overflow_sub-digit
overflow_sub-digit c =
    digit_low c.args.digits.now _ c.loop-digit.digit-index c.as_bytes-digit-items.ensures.value c.requires c.loop-digit-test.true

pub loop-digit-preserved : goal.loop-digit-preserved
loop-digit-preserved c =
    capped_more c.args.digits.now _ c.loop-digit.digit-index c.loop-digit.number _ c.from.result
    c.as_bytes-digit-items.ensures.value
    c.requires
    c.loop-digit-test.true
    c.loop-digit.invariant
    c.from.ensures
    c.min-number.ensures
