use Rattle.std.proofs.Common.{ap, ◌∙◌}
use Rattle.cpl_config.specs.declared.config.Config.{Config}
use Rattle.cpl_config.specs.declared.config.PartTable.{PartTable}
use Rattle.scheme_parts.specs.NumbersOf.{part_number}
use Rattle.scheme_parts.proofs.Lookups.{number_among}
use Rattle.scheme_parts.proofs.numbered.NumberedConfig.part_number.Goals as goal

pub returns : goal.returns
returns c =
    c.number.ensures
    ∙ (number_among (λ (table : PartTable). table.name) c.self.inside.config.now.participant c.self.inside.parts c.args.name.now c.self.invariant.1.of_parts
    ∙ ap (λ (config : Config). part_number config c.args.name.now) c.self.view_is)
