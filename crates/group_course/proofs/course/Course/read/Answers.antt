use Rattle.std.proofs.Common.{◌++◌, ◌∷◌, [], List, map, ap, sym, ◌∙◌}
use Rattle.wave_coupling.specs.Posts.{Wave}
use Rattle.wave_coupling.specs.InputWave.{over}
use Rattle.group_course.specs.Taken.{read_in, waves_before}
use Rattle.group_course.proofs.Maps.{take_next}
use Rattle.group_course.proofs.course.Course.read.Goals as goal

pub loop-place-preserved : goal.loop-place-preserved
loop-place-preserved c = λ look scheme tells is.
    let at = c.args.at in
    let all = map (read_in c.args.plan.now look scheme at.window at.start (waves_before at.number c.args.self.now.waves)) (over scheme.accel) in
    c.in_ok-push.ensures.items
    ∙ ap (λ (ws : List Wave). ws ++ c.in_ok-read_at.field-0 ∷ []) (c.loop-place.invariant look scheme tells is)
    ∙ sym (take_next all c.loop-place.place c.in_ok-read_at.field-0 (c.in_ok-read_at.ensures look scheme tells is))
