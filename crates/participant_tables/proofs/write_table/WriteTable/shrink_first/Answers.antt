use Rattle.std.proofs.Common.{ap, ◌∙◌}
use Rattle.participant_tables.specs.WriteSteps.{shrunk}
use Rattle.participant_tables.proofs.InPlace.{changed-more}
use Rattle.participant_tables.proofs.write_table.WriteTable.shrink_first.Goals as goal

pub loop-i-preserved : goal.loop-i-preserved
loop-i-preserved c =
    changed-more (shrunk c.args.place c.args.before) c.args.self.now c.loop-i.self-inside.entries.items c.loop-i.i c.index_mut.result.now c.shrink_on.new.self c.loop-i.invariant
    (c.shrink_on.ensures ∙ ap (shrunk c.args.place c.args.before) c.index_mut.ensures.value)
