use Rattle.std.proofs.Common.{ap, ◌∙◌}
use Rattle.cpl_config.specs.declared.config.Config.{Config}
use Rattle.cpl_config.specs.declared.config.MeshTable.{MeshTable}
use Rattle.scheme_parts.specs.NumbersOf.{mesh_number}
use Rattle.scheme_parts.proofs.Lookups.{number_among}
use Rattle.scheme_parts.proofs.numbered.NumberedConfig.mesh_number.Goals as goal

pub returns : goal.returns
returns c =
    c.number.ensures
    ∙ (number_among (λ (table : MeshTable). table.name) c.self.inside.config.now.mesh c.self.inside.meshes c.args.name.now c.self.invariant.1.of_meshes
    ∙ ap (λ (config : Config). mesh_number config c.args.name.now) c.self.view_is)
