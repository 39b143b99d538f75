use Rattle.std.proofs.Common.{◌∙◌}
use Rattle.command_words.proofs.Meant.{meaning_of}
use Rattle.command_words.proofs.meaning.asked_in.Goals as goal

pub returns : goal.returns
returns c = c.asked_by.ensures ∙ meaning_of _ _ c.in_ok-line.ensures
