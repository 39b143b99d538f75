use Rattle.std.proofs.Common.{ap, ◌∙◌}
use Rattle.participant_tables.specs.WriteSteps.{unsampled}
use Rattle.participant_tables.proofs.InPlace.{changed-more}
use Rattle.participant_tables.proofs.write_table.WriteTable.pop_first.Goals as goal

pub loop-i-preserved : goal.loop-i-preserved
loop-i-preserved c =
    changed-more unsampled c.args.self.now c.loop-i.self-inside.entries.items c.loop-i.i c.index_mut.result.now c.pop_sample.new.self c.loop-i.invariant (c.pop_sample.ensures ∙ ap unsampled c.index_mut.ensures.value)
