use Rattle.participant_waves.specs.SentWaves.{samples_of, wave_sent}
use Rattle.participant_waves.proofs.Made.{GoesOn}
use Rattle.participant_waves.proofs.sends.Sends.turn_waves.Given as goal

abbrev pub invariant-loop-i : goal.invariant-loop-i
invariant-loop-i l = GoesOn (λ s. wave_sent l.self.part l.window l.iteration s (samples_of l.writes s)) l.self.sendings l.waves.items l.i
