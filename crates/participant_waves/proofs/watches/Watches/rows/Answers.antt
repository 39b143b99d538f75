use Rattle.std.proofs.Common.{◌≡◌, ℕ, Vec, Global, length, map, ap, sym, ◌∙◌}
use Rattle.std.proofs.lemmas.List.{length-map}
use Rattle.std.proofs.lemmas.Result.{IfOk-weaker}
use Rattle.cpl_plan.specs.declared.words.WatchRow.{WatchRow}
use Rattle.wave_coupling.specs.Known.{Known}
use Rattle.wave_coupling.specs.Posts.{received}
use Rattle.participant_words.specs.Course.{Turn}
use Rattle.participant_words.specs.WatchShown.{watch_rows}
use Rattle.participant_waves.specs.CanShow.{input_kept}
use Rattle.participant_waves.specs.RowsKept.{rows_kept}
use Rattle.participant_waves.specs.WatchesStand.{AreWatches}
use Rattle.participant_waves.specs.Written.{AreWritten}
use Rattle.participant_waves.proofs.RowsMean.{rows_mean}
use Rattle.participant_waves.proofs.WatchedRows.{have_all, are_opened}
use Rattle.participant_waves.proofs.watches.Watches.rows.Goals as goal

pub rows_kept-requires-clause-opened : goal.rows_kept-requires-clause-opened
rows_kept-requires-clause-opened c =
    are_opened c.args.plan.now c.parts-parts.ensures.valid c.args.self.now c.args.reads.now c.args.writes.now c.args.inputs.now c.args.clock c.requires

pub rows_kept-requires-clause-rows : goal.rows_kept-requires-clause-rows
rows_kept-requires-clause-rows c =
    have_all c.args.plan.now c.parts-parts.ensures.valid c.args.self.now c.args.reads.now c.args.writes.now c.args.inputs.now c.args.clock c.requires

pub returns : goal.returns
returns c =
    IfOk-weaker c.rows_kept.result
    (λ (rows : Vec WatchRow Global). rows.items ≡ rows_kept c.args.plan.now c.args.self.now c.args.writes.now c.args.inputs.now c.args.clock)
    (λ (rows : Vec WatchRow Global). (part : ℕ) (known : Known) (turn : Turn) → AreWatches c.args.plan.now part known c.args.self.now → AreWritten c.args.plan.now part known turn.written c.args.writes.now
    → turn.inputs ≡ map input_kept c.args.inputs.now → turn.window ≡ c.args.clock.window → turn.now ≡ c.args.clock.now → watch_rows c.args.plan.now part known turn ≡ rows.items)
    (λ rows is part known turn followed written read_from window now.
    let same : c.requires.part ≡ part = sym c.requires.followed.watcher ∙ followed.watcher in
    let taken : length (map input_kept c.args.inputs.now) ≡ length (received c.args.plan.now part) =
    length-map c.args.inputs.now input_kept ∙ c.requires.taken ∙ ap (λ (p : ℕ). length (received c.args.plan.now p)) same in
    rows_mean c.args.plan.now c.parts-parts.ensures.valid part known c.args.self.now c.args.writes.now c.args.inputs.now c.args.clock turn followed written c.requires.stepped taken read_from window now
    ∙ sym is)
    c.rows_kept.ensures
