use Rattle.std.proofs.Common.{◌<◌, List, length, get_or, arith, ap, ◌∙◌}
use Rattle.participant_waves.specs.declared.sending.Sending.{Sending}
use Rattle.participant_waves.specs.SentWaves.{field_at, initial_wave_sent}
use Rattle.participant_waves.proofs.Made.{more}
use Rattle.participant_waves.proofs.PostRefused.{not_posted}
use Rattle.participant_waves.proofs.sends.Sends.initial_waves.Goals as goal

pub loop-i-preserved : goal.loop-i-preserved
loop-i-preserved c =
    let inside : c.loop-i.i < length c.args.self.now.sendings = omega (arith, c.loop-i-test.true, ap length c.as_slice-sendings.ensures) in
    let at = c.index-sendings-i.is ∙ ap (λ (ss : List Sending). get_or ss c.loop-i.i c.index-sendings-i.result) c.as_slice-sendings.ensures in
    rw c.in_ok-push-in-Ok.ensures.items
    (more (λ (s : Sending). initial_wave_sent c.args.self.now.part s (field_at c.args.writes.now s)) c.args.self.now.sendings c.loop-i.waves.items c.loop-i.i c.index-sendings-i.result c.in-Ok.wave inside at c.in-Ok.ensures.posted c.loop-i.invariant)

pub returns-in-Err-clause-refused : goal.returns-in-Err-clause-refused
returns-in-Err-clause-refused c =
    let inside : c.loop-i.i < length c.args.self.now.sendings = omega (arith, c.loop-i-test.true, ap length c.as_slice-sendings.ensures) in
    let at = c.index-sendings-i.is ∙ ap (λ (ss : List Sending). get_or ss c.loop-i.i c.index-sendings-i.result) c.as_slice-sendings.ensures in
    not_posted (λ (s : Sending). initial_wave_sent c.args.self.now.part s (field_at c.args.writes.now s)) c.args.self.now.sendings c.loop-i.waves.items c.loop-i.i c.index-sendings-i.result inside at c.loop-i.invariant c.in-Err.why c.in-Err.ensures.refused
