use Rattle.std.proofs.Common.{◌≡◌, ◌≤◌, take}
use Rattle.participant_waves.proofs.copies.wave_of.Given as goal

abbrev pub invariant-loop-i : goal.invariant-loop-i
invariant-loop-i l = (l.wave ≡ take l.i l.samples) × (1 ≤ l.i)
