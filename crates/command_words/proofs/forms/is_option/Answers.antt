use Rattle.std.proofs.Common.{rules, string_bytes}
use Rattle.command_words.proofs.Ways.{two_items}
use Rattle.command_words.proofs.forms.is_option.Goals as goal

pub returns-in-len2 : goal.returns-in-len2
returns-in-len2 c =
    let items = two_items string_bytes c.args.words.now c.first-item.result c.second-item.result (search rules) (search rules) in
    rw items (search rules)
