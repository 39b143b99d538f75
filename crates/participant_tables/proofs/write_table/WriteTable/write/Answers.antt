use Rattle.std.proofs.Common.{ap, ◌∙◌}
use Rattle.participant_tables.specs.AtPlace.{at_place}
use Rattle.participant_tables.specs.WriteSteps.{written}
use Rattle.participant_tables.proofs.InPlace.{changed-one}
use Rattle.participant_tables.proofs.write_table.WriteTable.write.Goals as goal

pub returns : goal.returns
returns c =
    changed-one (written c.args.vertices.now c.args.rows.now) c.self.inside.entries.items c.args.entry c.index_mut.result.now c.write.new.self
    (c.write.ensures ∙ ap (written c.args.vertices.now c.args.rows.now) c.index_mut.ensures.value)
    ∙ ap (at_place (written c.args.vertices.now c.args.rows.now) c.args.entry) c.self.view_is
