use Rattle.std.proofs.Common.{◌≡◌, set, ap, sym, ◌∙◌}
use Rattle.participant_tables.specs.WriteSteps.{grown}
use Rattle.participant_tables.proofs.Growing.{front-vertices, still-fresh, shrunk-front}
use Rattle.participant_tables.proofs.InPlace.{changed, changed-more, written-back}
use Rattle.participant_tables.proofs.Results.{told_ok, told_err}
use Rattle.participant_tables.proofs.write_table.WriteTable.grow.Goals as goal

pub loop-i-preserved : goal.loop-i-preserved
loop-i-preserved c =
    let new : c.grow_on.new.self ≡ grown c.args.place c.args.more c.index_mut.result.now = told_ok c.grow_on.result _ (sym c.is_err.ensures.value ∙ c.if-is_err.false) c.grow_on.ensures.grown in
    changed-more (grown c.args.place c.args.more) c.args.self.now c.self-in-loop-i.inside.entries.items c.loop-i.i c.index_mut.result.now c.grow_on.new.self (c.self-in-loop-i.view_is ∙ c.loop-i.invariant)
    (new ∙ ap (grown c.args.place c.args.more) c.index_mut.ensures.value)

pub shrink_first-requires-clause-vertices : goal.shrink_first-requires-clause-vertices
shrink_first-requires-clause-vertices c =
    let same : c.grow_on.new.self ≡ c.index_mut.result.now = told_err c.grow_on.result _ (sym c.is_err.ensures.value ∙ c.if-is_err.true) c.grow_on.ensures.unchanged in
    let back = written-back c.self-in-loop-i.inside.entries.items (changed (grown c.args.place c.args.more) c.loop-i.i c.args.self.now) c.loop-i.i c.index_mut.result.now c.grow_on.new.self (c.self-in-loop-i.view_is ∙ c.loop-i.invariant) (same ∙ c.index_mut.ensures.value) in
    front-vertices c.args.place c.args.before c.args.more c.loop-i.i c.args.self.now (set c.self-in-loop-i.inside.entries.items c.loop-i.i c.grow_on.new.self) back c.requires.vertices

pub shrink_first-requires-clause-fresh : goal.shrink_first-requires-clause-fresh
shrink_first-requires-clause-fresh c =
    let same : c.grow_on.new.self ≡ c.index_mut.result.now = told_err c.grow_on.result _ (sym c.is_err.ensures.value ∙ c.if-is_err.true) c.grow_on.ensures.unchanged in
    let back = written-back c.self-in-loop-i.inside.entries.items (changed (grown c.args.place c.args.more) c.loop-i.i c.args.self.now) c.loop-i.i c.index_mut.result.now c.grow_on.new.self (c.self-in-loop-i.view_is ∙ c.loop-i.invariant) (same ∙ c.index_mut.ensures.value) in
    still-fresh c.args.place c.args.before c.args.more c.loop-i.i c.args.self.now (set c.self-in-loop-i.inside.entries.items c.loop-i.i c.grow_on.new.self) back c.requires.fresh

pub returns-then-is_err-clause-unchanged : goal.returns-then-is_err-clause-unchanged
returns-then-is_err-clause-unchanged c =
    let same : c.grow_on.new.self ≡ c.index_mut.result.now = told_err c.grow_on.result _ (sym c.is_err.ensures.value ∙ c.if-is_err.true) c.grow_on.ensures.unchanged in
    let back = written-back c.self-in-loop-i.inside.entries.items (changed (grown c.args.place c.args.more) c.loop-i.i c.args.self.now) c.loop-i.i c.index_mut.result.now c.grow_on.new.self (c.self-in-loop-i.view_is ∙ c.loop-i.invariant) (same ∙ c.index_mut.ensures.value) in
    c.shrink_first.ensures
    ∙ shrunk-front c.args.place c.args.before c.args.more c.loop-i.i c.args.self.now (set c.self-in-loop-i.inside.entries.items c.loop-i.i c.grow_on.new.self) back c.requires.vertices
