use Rattle.std.proofs.Common.{map, option_map, ap, ◌∙◌}
use Rattle.std.proofs.lemmas.List.Elements.{All-same}
use Rattle.cpl_rules.specs.FirstBroken.{first_broken}
use Rattle.cpl_config.specs.SoundConfig.{IsSoundConfig}
use Rattle.case_rules.specs.declared.case_check.CaseSpot.{CaseSpot}
use Rattle.case_rules.specs.CaseRules.{entry_of_case, IsSoundEntry, breaks_case, case_rules, refused_for_case}
use Rattle.case_rules.proofs.case_check.refusal_of.Goals as goal

pub first_broken-requires : goal.first_broken-requires
first_broken-requires c =
    let IsFit : CaseSpot → Type 0 = λ spot. IsSoundConfig c.args.config.now × IsSoundEntry (entry_of_case spot) in
    All-same IsFit c.deref.result.now c.in_ok-spots.spots.items c.deref.ensures.value (λ k d within. (c.requires.sound, c.in_ok-spots.ensures.sound k d within))

pub returns : goal.returns
returns c =
    c.in_ok-refusal.ensures
    ∙ ap (λ held. option_map refused_for_case (first_broken (breaks_case c.args.config.now) case_rules held)) (ap (map entry_of_case) c.deref.ensures.value ∙ c.in_ok-spots.ensures.entries)
