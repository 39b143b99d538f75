use Rattle.std.proofs.Common.{sym, ◌∙◌}
use Rattle.line_text.proofs.Parts.{spelled}
use Rattle.line_text.proofs.laws.one_spelling.Goals as goal

pub returns : goal.returns
returns c s t text h k = sym (spelled s text h) ∙ spelled t text k
