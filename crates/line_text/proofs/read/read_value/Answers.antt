use Rattle.std.proofs.Common.{◌∙◌}
use Rattle.line_text.proofs.Meanings.{means_empty, means_digit, means_many, means_range, means_ok, reads_small}
use Rattle.line_text.proofs.read.read_value.Goals as goal

pub returns-clause-empty : goal.returns-clause-empty
returns-clause-empty c = means_empty c.args.text.now _ c.answer_to.ensures

pub returns-clause-digit : goal.returns-clause-digit
returns-clause-digit c = means_digit c.args.text.now _ c.answer_to.ensures

pub returns-clause-too_many_decimals : goal.returns-clause-too_many_decimals
returns-clause-too_many_decimals c = means_many c.args.text.now _ c.answer_to.ensures

pub returns-clause-range : goal.returns-clause-range
returns-clause-range c = means_range c.args.text.now _ c.answer_to.ensures

pub returns-clause-value : goal.returns-clause-value
returns-clause-value c = means_ok c.args.text.now _ c.answer_to.ensures

pub returns-clause-number : goal.returns-clause-number
returns-clause-number c s spells places small = c.answer_to.ensures ∙ reads_small s c.args.text.now spells places small
