use Rattle.std.proofs.Common.{ap, ◌∙◌}
use Rattle.participant_tables.specs.WriteSteps.{cleared}
use Rattle.participant_tables.proofs.InPlace.{changed-more}
use Rattle.participant_tables.proofs.write_table.WriteTable.clear.Goals as goal

pub loop-i-preserved : goal.loop-i-preserved
loop-i-preserved c =
    changed-more cleared c.args.self.now c.loop-i.self-inside.entries.items c.loop-i.i c.index_mut.result.now c.clear.new.self c.loop-i.invariant (c.clear.ensures ∙ ap cleared c.index_mut.ensures.value)
