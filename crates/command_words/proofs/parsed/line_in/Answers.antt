use Rattle.std.proofs.Common.{◌∙◌, ap, map, string_bytes}
use Rattle.std.proofs.lemmas.Result.{IfOk-weaker}
use Rattle.clap.specs.Words.{takes}
use Rattle.command_words.proofs.Read.{line_read}
use Rattle.command_words.proofs.Taken.{found_in}
use Rattle.command_words.proofs.parsed.line_in.Goals as goal

pub returns-in-Ok : goal.returns-in-Ok
returns-in-Ok c parts w some = c.line_of.ensures
    ∙ found_in _ _ _ parts c.in_ok-command.ensures c.in-Ok.ensures.matches (line_read _ parts w some)

-- words that write a line which asks for something are taken
pub returns-in-Err : goal.returns-in-Err
returns-in-Err c = IfOk-weaker c.unread.result _ _
    (λ line other parts w some. absurd (other (c.kind.ensures ∙ c.in-Err.ensures.passes
    (ap (λ app. takes app (map string_bytes c.args.words.now)) c.in_ok-command.ensures ∙ (line_read _ parts w some).0)))) c.unread.ensures
