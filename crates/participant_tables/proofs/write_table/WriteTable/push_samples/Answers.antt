use Rattle.std.proofs.Common.{◌≡◌, ap, sym, ◌∙◌}
use Rattle.participant_tables.specs.WriteSteps.{sampled}
use Rattle.participant_tables.proofs.Growing.{unsampled-front}
use Rattle.participant_tables.proofs.InPlace.{changed, changed-more, written-back}
use Rattle.participant_tables.proofs.Results.{told_ok, told_err}
use Rattle.participant_tables.proofs.write_table.WriteTable.push_samples.Goals as goal

pub loop-i-preserved : goal.loop-i-preserved
loop-i-preserved c =
    let new : c.push_sample.new.self ≡ sampled c.args.time c.index_mut.result.now = told_ok c.push_sample.result _ (sym c.is_err.ensures.value ∙ c.if-is_err.false) c.push_sample.ensures.sampled in
    changed-more (sampled c.args.time) c.args.self.now c.self-in-loop-i.inside.entries.items c.loop-i.i c.index_mut.result.now c.push_sample.new.self (c.self-in-loop-i.view_is ∙ c.loop-i.invariant)
    (new ∙ ap (sampled c.args.time) c.index_mut.ensures.value)

pub returns-then-is_err-clause-unchanged : goal.returns-then-is_err-clause-unchanged
returns-then-is_err-clause-unchanged c =
    let same : c.push_sample.new.self ≡ c.index_mut.result.now = told_err c.push_sample.result _ (sym c.is_err.ensures.value ∙ c.if-is_err.true) c.push_sample.ensures.unchanged in
    let back = written-back c.self-in-loop-i.inside.entries.items (changed (sampled c.args.time) c.loop-i.i c.args.self.now) c.loop-i.i c.index_mut.result.now c.push_sample.new.self (c.self-in-loop-i.view_is ∙ c.loop-i.invariant) (same ∙ c.index_mut.ensures.value) in
    c.pop_first.ensures ∙ unsampled-front c.args.time c.loop-i.i c.args.self.now _ back
