use Rattle.std.proofs.Common.{◌≤◌}
use Rattle.wave_maps.proofs.Through.{GoesOn}
use Rattle.wave_maps.proofs.wave_map.WaveMap.map_rest.Given as goal

abbrev pub invariant-loop-i : goal.invariant-loop-i
invariant-loop-i l = GoesOn l.self l.wave l.mapped l.i × (1 ≤ l.i)
