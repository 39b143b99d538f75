use Rattle.std.proofs.Common.{List, None, Some, ap, sym, ◌∙◌}
use Rattle.std.specs.Prelude.{slice_get}
use Rattle.cpl_config.specs.declared.config.Config.{Config}
use Rattle.cpl_config.specs.declared.config.PartTable.{PartTable}
use Rattle.mesh_rules.specs.Named.{participant_called}
use Rattle.scheme_parts.proofs.Lookups.{looked_up, participant_at}
use Rattle.scheme_parts.proofs.numbered.NumberedConfig.participant.Goals as goal

pub returns-in-Some-clause-called : goal.returns-in-Some-clause-called
returns-in-Some-clause-called c =
    looked_up (λ table. table.now) c.get.result c.as_slice.result.now c.in-Some.place c.get.ensures.lookup.3
    ∙ (ap (λ (tables : List PartTable). slice_get tables c.in-Some.place) c.as_slice.ensures
    ∙ (sym (participant_at c.self.inside.config.now c.self.inside.parts c.args.name.now (Some c.in-Some.place) c.self.invariant.1.of_parts c.in-Some.ensures.place)
    ∙ ap (λ (config : Config). participant_called config c.args.name.now) c.self.view_is))

pub returns-in-None-clause-called : goal.returns-in-None-clause-called
returns-in-None-clause-called c =
    sym (participant_at c.self.inside.config.now c.self.inside.parts c.args.name.now None c.self.invariant.1.of_parts c.in-None.ensures.place)
    ∙ ap (λ (config : Config). participant_called config c.args.name.now) c.self.view_is
