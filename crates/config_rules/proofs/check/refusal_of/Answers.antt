use Rattle.std.proofs.Common.{map, option_map, ap, ◌∙◌}
use Rattle.cpl_rules.specs.FirstBroken.{first_broken}
use Rattle.mesh_rules.specs.Spots.{entry_of}
use Rattle.config_rules.specs.ConfigRules.{breaks, config_rules, refused_for}
use Rattle.config_rules.proofs.check.refusal_of.Goals as goal

pub returns : goal.returns
returns c =
    c.in_ok-refusal.ensures
    ∙ ap (λ held. option_map refused_for (first_broken (breaks c.args.config.now) config_rules held)) (ap (map entry_of) c.deref.ensures.value ∙ c.in_ok-spots.ensures)
