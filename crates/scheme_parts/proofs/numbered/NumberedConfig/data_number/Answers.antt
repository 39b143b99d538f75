use Rattle.std.proofs.Common.{ap, ◌∙◌}
use Rattle.cpl_config.specs.declared.config.Config.{Config}
use Rattle.cpl_config.specs.declared.config.DataTable.{DataTable}
use Rattle.scheme_parts.specs.NumbersOf.{data_number}
use Rattle.scheme_parts.proofs.Lookups.{number_among}
use Rattle.scheme_parts.proofs.numbered.NumberedConfig.data_number.Goals as goal

pub returns : goal.returns
returns c =
    c.number.ensures
    ∙ (number_among (λ (table : DataTable). table.name) c.self.inside.config.now.data_list c.self.inside.data_items c.args.name.now c.self.invariant.1.of_data
    ∙ ap (λ (config : Config). data_number config c.args.name.now) c.self.view_is)
