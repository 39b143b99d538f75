use Rattle.std.proofs.Common.{ap, ◌∙◌}
use Rattle.participant_tables.specs.WriteSteps.{forgotten}
use Rattle.participant_tables.proofs.InPlace.{changed-more}
use Rattle.participant_tables.proofs.write_table.WriteTable.forget_samples.Goals as goal

pub loop-i-preserved : goal.loop-i-preserved
loop-i-preserved c =
    changed-more forgotten c.args.self.now c.loop-i.self-inside.entries.items c.loop-i.i c.index_mut.result.now c.forget_samples.new.self c.loop-i.invariant (c.forget_samples.ensures ∙ ap forgotten c.index_mut.ensures.value)
