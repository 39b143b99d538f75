use Rattle.participant_waves.specs.SentWaves.{field_at, initial_wave_sent}
use Rattle.participant_waves.proofs.Made.{GoesOn}
use Rattle.participant_waves.proofs.sends.Sends.initial_waves.Given as goal

abbrev pub invariant-loop-i : goal.invariant-loop-i
invariant-loop-i l = GoesOn (λ s. initial_wave_sent l.self.part s (field_at l.writes s)) l.self.sendings l.waves.items l.i
