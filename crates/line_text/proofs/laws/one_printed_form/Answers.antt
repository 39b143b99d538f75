use Rattle.line_text.proofs.Shape.{has_form, only_text}
use Rattle.line_text.proofs.laws.one_printed_form.Goals as goal

pub returns-clause-printed : goal.returns-clause-printed
returns-clause-printed c = has_form

pub returns-clause-only : goal.returns-clause-only
returns-clause-only c = only_text
