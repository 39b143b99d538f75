use Rattle.std.proofs.Common.{arith}
use Rattle.line_text.proofs.Digits.{capped_magnitude}
use Rattle.line_text.proofs.read.magnitude_of.Goals as goal

pub overflow_add-result : goal.overflow_add-result
overflow_add-result c =
    omega (arith, (capped_magnitude _ _ _ _ c.args.decimals.now c.requires.decimals c.requires.places c.pow-weight.ensures c.capped_number.ensures c.capped_number-2.ensures).1)

pub returns : goal.returns
returns c =
    (capped_magnitude _ _ _ _ c.args.decimals.now c.requires.decimals c.requires.places c.pow-weight.ensures c.capped_number.ensures c.capped_number-2.ensures).0
