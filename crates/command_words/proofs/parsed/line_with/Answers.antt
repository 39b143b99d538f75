use Rattle.std.proofs.Common.{rules, option_copied, Some}
use Rattle.command_words.proofs.Read.{parts_here, none_here}
use Rattle.command_words.proofs.parsed.line_with.Goals as goal

pub returns-in-Some : goal.returns-in-Some
returns-in-Some c = parts_here c.args.matches.now c.args.command.now (Some c.in-Some.config.now) (option_copied c.get_str-in-Some.result)
    (search rules) (search rules)

pub returns-in-None : goal.returns-in-None
returns-in-None c = none_here c.args.matches.now c.args.command.now (search rules)
