use Rattle.std.proofs.Common.{subst}
use Rattle.wave_coupling.specs.PostedWaves.{post_of}
use Rattle.participant_waves.specs.Refusals.{IsNoPost}
use Rattle.call_parts.proofs.posts.turn_post.Goals as goal

pub returns-in-Err-Overflow : goal.returns-in-Err-Overflow
returns-in-Err-Overflow c = λ plan part known written are turn.
    subst (IsNoPost (post_of plan part known c.args.clock.window c.args.clock.iteration written)) c.in-Err-Overflow.field-0-is
    (c.in-Err-Overflow.ensures.refused plan part known written are turn)
