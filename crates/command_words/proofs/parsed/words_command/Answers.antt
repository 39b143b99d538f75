use Rattle.std.proofs.Common.{rules, ◌≡◌, ◌∙◌, ap, ap₂, codes}
use Rattle.clap.specs.Words.{App, app_of, new_app, rule_of, with_rule, with_subcommand}
use Rattle.command_words.specs.Parsed.{named_app, schedule_rule, without_help}
use Rattle.command_words.proofs.parsed.words_command.Goals as goal

pub returns : goal.returns
returns c =
    let schedule_is : rule_of c.long-schedule.result ≡ schedule_rule = search rules in
    let solo_is : app_of c.in_ok-solo.solo ≡ with_rule (named_app (codes "solo")) schedule_rule =
    c.in_ok-solo.ensures.shape (search rules)
    ∙ ap₂ with_rule (c.in_ok-arg.ensures.shape (search rules) ∙ ap₂ with_rule c.new-2.ensures.app c.config_argument.ensures.rule) schedule_is in
    let check_is : app_of c.in_ok-check.check ≡ named_app (codes "check") =
    c.in_ok-check.ensures.shape (search rules) ∙ ap₂ with_rule c.new-3.ensures.app c.config_argument-2.ensures.rule in
    let top_is : app_of c.disable_help_subcommand-command.result ≡ without_help (new_app (codes "coupling")) =
    rw (c.disable_help_subcommand-command.ensures, c.disable_help_flag.ensures, c.no_binary_name.ensures) (ap without_help c.new-4.ensures.app) in
    c.in_ok-command.ensures.shape (search rules)
    ∙ ap₂ with_subcommand (c.in_ok-subcommand.ensures.shape (search rules) ∙ ap₂ with_subcommand top_is (ap (λ (a : App). a.top) check_is)) (ap (λ (a : App). a.top) solo_is)
