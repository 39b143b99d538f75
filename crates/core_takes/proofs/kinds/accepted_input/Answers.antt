use Rattle.std.proofs.Common.{◌-◌, subst}
use Rattle.wave_coupling.specs.Posts.{Wave}
use Rattle.wave_coupling.specs.InputWave.{completed}
use Rattle.core_takes.specs.Readable.{CanFollow}
use Rattle.core_takes.proofs.Followings.{alike_by}
use Rattle.core_takes.proofs.Told.{accepted_is}
use Rattle.core_takes.proofs.kinds.accepted_input.Goals as goal

pub led_by-requires-clause-alike : goal.led_by-requires-clause-alike
led_by-requires-clause-alike c =
    let r = c.requires.readable in
    let turn = c.args.turn in
    let samples = c.accepted_of-samples.result.now in
    alike_by r.plan r.look c.args.x r.e c.args.store.now r.tells (turn.window - 1) turn.start c.end_before.result.now c.end_before.ensures.looked_up samples
    (subst (λ (ws : Wave). CanFollow turn.start (completed r.plan r.look r.e c.args.x (turn.window - 1)).wave ws)
    (accepted_is r.plan r.look c.args.x r.e c.args.store.now r.tells turn.window samples c.accepted_of-samples.ensures) r.follow)
