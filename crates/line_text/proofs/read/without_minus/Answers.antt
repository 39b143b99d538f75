use Rattle.line_text.proofs.Parts.{no_minus, no_minus_rest}
use Rattle.line_text.proofs.read.without_minus.Goals as goal

pub returns-in-None-clause-minus : goal.returns-in-None-clause-minus
unfolding lib.Utf8.encode
returns-in-None-clause-minus c = no_minus c.args.text.now c.in-None.ensures.cases

pub returns-in-None-clause-rest : goal.returns-in-None-clause-rest
unfolding lib.Utf8.encode
returns-in-None-clause-rest c = no_minus_rest c.args.text.now c.in-None.ensures.cases
